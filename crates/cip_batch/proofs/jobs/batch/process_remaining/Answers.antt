use Rattle.std.proofs.Common.{◌<◌, ◌^◌, ◌++◌, subst}
use Rattle.cip_batch.specs.declared.error.StreamError.TheVariants as stops
use Rattle.cip_batch.specs.Batches.{Answers}
use Rattle.cip_batch.proofs.lemmas.Batches.{answers_both, same_next}
use Rattle.cip_batch.proofs.lemmas.Faults.{joined_fault, later_twice, rose_later}
use Rattle.cip_batch.proofs.jobs.batch.process_remaining.Goals as goal

pub returns-in-Err : goal.returns-in-Err
returns-in-Err g c = record {
  answered = c.in-Err.ensures.answered;
  fault = c.in-Err.ensures.fault;
  later = c.in-Err.ensures.later;
}

pub process_batch-requires-clause-room : goal.process_batch-requires-clause-room
process_batch-requires-clause-room g c κs within =
    let batch = c.args.batch.now in
    let middle = c.process_complete_records.new.batch in
    subst (λ n. n < 2 ^ 64) (same_next (g.T.RecordProcessor.expected batch.processor) batch.first middle.first
    (batch.records ++ c.args.framer.now.waiting) middle.records c.in-Ok.verdict _ _
    c.in-Ok.ensures.answered) c.requires.room

pub returns-in-Ok : goal.returns-in-Ok
returns-in-Ok g c =
    let batch = c.args.batch.now in
    let middle = c.process_complete_records.new.batch in
    rw c.then.ensures (record {
      answered = answers_both (g.T.RecordProcessor.expected batch.processor) batch.first middle.first
          (batch.records ++ c.args.framer.now.waiting) middle.records c.in-Ok.verdict c.process_batch.result _ _ _
          c.in-Ok.ensures.answered
          (subst (λ t. Answers (g.T.RecordProcessor.expected t) middle.first middle.records c.process_batch.result
          (g.K.Sink.taken c.process_complete_records.new.sink) (g.K.Sink.taken c.process_batch.new.sink))
          c.in-Ok.ensures.processor c.process_batch.ensures.answered);
      fault = joined_fault c.in-Ok.verdict c.process_batch.result stops.WriteFault
          (λ is. rose_later _ _ _ c.in-Ok.ensures.later (c.process_batch.ensures.fault is));
      later = later_twice _ _ _ c.in-Ok.ensures.later c.process_batch.ensures.later;
    })
