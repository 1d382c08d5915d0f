use Rattle.std.proofs.Common.{◌+◌, ◌++◌, ◌<◌, ◌^◌, ◌≡◌, ◌∙◌, ap, length, subst, sym, true}
use Rattle.cip_frame.specs.declared.record.Tail.TheVariants.{Blank}
use Rattle.cip_frame.specs.Framing.{is_within}
use Rattle.cip_frame.specs.Records.{last_of}
use Rattle.cip_batch.specs.Batches.{Answers, Gathered}
use Rattle.cip_batch.proofs.lemmas.Batches.{no_memory, one_more_room}
use Rattle.cip_batch.proofs.lemmas.Faults.{memory_no_fault, stays}
use Rattle.cip_batch.proofs.lemmas.Tails.{last_answered, less_room, none_behind, short_last}
use Rattle.cip_batch.proofs.jobs.batch.process_tail.Goals as goal

pub returns-in-Nothing : goal.returns-in-Nothing
returns-in-Nothing g c =
    let batch = c.args.batch.now in
    record {
      answered = λ rest is. none_behind (g.T.RecordProcessor.expected batch.processor) batch.first batch.records rest
          c.process_batch.result _ _ (sym c.in-Nothing.is ∙ is) c.process_batch.ensures.answered;
      fault = c.process_batch.ensures.fault;
      later = c.process_batch.ensures.later;
    }

pub returns-in-Blank : goal.returns-in-Blank
returns-in-Blank g c = record {
  answered = λ rest is. c.answer_with_blank.ensures.answered rest (ap Blank c.as_slice.ensures ∙ sym c.in-Blank.is ∙ is);
  fault = c.answer_with_blank.ensures.fault;
  later = c.answer_with_blank.ensures.later;
}

pub push-requires-clause-short : goal.push-requires-clause-short
push-requires-clause-short g c κs within =
    short_last c.in-Last.last (subst (λ tail. is_within (2 ^ 31) tail ≡ true) c.in-Last.is c.requires.small)

pub process_batch-requires-clause-room : goal.process_batch-requires-clause-room
process_batch-requires-clause-room g c κs within = less_room _ c.requires.room

pub answer_with_blank-requires-clause-room : goal.answer_with_blank-requires-clause-room
answer_with_blank-requires-clause-room g c κs within = less_room _ c.requires.room

pub process_batch-requires-in-Last-clause-room : goal.process_batch-requires-in-Last-clause-room
process_batch-requires-in-Last-clause-room g c κs within =
    let batch = c.args.batch.now in
    subst (λ (b : Gathered _). b.first + length b.records < 2 ^ 64) (sym c.in-Ok.ensures.pushed)
    (one_more_room batch.first batch.records c.in-Last.last.bytes c.requires.room)

pub returns-in_default : goal.returns-in_default
returns-in_default g c =
    let batch = c.args.batch.now in
    record {
      answered = λ rest is. no_memory (g.T.RecordProcessor.expected batch.processor) batch.first (batch.records ++ last_of rest)
          (g.K.Sink.taken c.args.sink.now);
      fault = memory_no_fault;
      later = stays (g.K.Sink.faults c.args.sink.now);
    }

pub returns-in-Ok : goal.returns-in-Ok
returns-in-Ok g c =
    let batch = c.args.batch.now in
    record {
      answered = λ rest is. last_answered (g.T.RecordProcessor.expected batch.processor) batch.first batch.records rest c.in-Last.last
          c.process_batch-in-Last.result _ _ (sym c.in-Last.is ∙ is)
          (subst (λ b. Answers (g.T.RecordProcessor.expected b.processor) b.first b.records c.process_batch-in-Last.result
          (g.K.Sink.taken c.args.sink.now) (g.K.Sink.taken c.process_batch-in-Last.new.sink))
          c.in-Ok.ensures.pushed c.process_batch-in-Last.ensures.answered);
      fault = c.process_batch-in-Last.ensures.fault;
      later = c.process_batch-in-Last.ensures.later;
    }
