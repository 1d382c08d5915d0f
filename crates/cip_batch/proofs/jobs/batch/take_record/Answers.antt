use Rattle.std.proofs.Common.{◌+◌, ◌++◌, ◌<◌, ◌^◌, ◌∷◌, [], ◌∙◌, length, sym, subst}
use Rattle.cip_batch.specs.Batches.{Advances, Gathered}
use Rattle.cip_batch.specs.Verdicts.{clear}
use Rattle.cip_batch.proofs.lemmas.Batches.{batch_answered, no_memory, none_yet, one_more_room}
use Rattle.cip_batch.proofs.lemmas.Faults.{memory_no_fault, stays, told_no_fault}
use Rattle.cip_batch.proofs.jobs.batch.take_record.Goals as goal

pub process_batch-requires-clause-room : goal.process_batch-requires-clause-room
process_batch-requires-clause-room g c κs within =
    let batch = c.args.batch.now in
    subst (λ (b : Gathered _). b.first + length b.records < 2 ^ 64) (sym c.in-Ok.ensures.pushed)
    (one_more_room batch.first batch.records c.args.bytes c.requires.room)

pub returns-in_default : goal.returns-in_default
returns-in_default g c =
    let batch = c.args.batch.now in
    record {
      answered = no_memory (g.T.RecordProcessor.expected batch.processor) batch.first (batch.records ++ c.args.bytes ∷ [])
          (g.K.Sink.taken c.args.sink.now);
      processor = c.push.ensures.processor;
      fault = memory_no_fault;
      later = stays (g.K.Sink.faults c.args.sink.now);
    }

pub returns-else-is_full : goal.returns-else-is_full
returns-else-is_full g c =
    let batch = c.args.batch.now in
    let records = batch.records ++ c.args.bytes ∷ [] in
    let expected = g.T.RecordProcessor.expected batch.processor in
    let taken = g.K.Sink.taken c.args.sink.now in
    record {
      answered = rw c.clear.ensures (subst
          (λ (b : Gathered _). Advances expected batch.first records b.first b.records clear taken taken)
          (sym c.in-Ok.ensures.pushed) (none_yet expected batch.first records taken));
      processor = c.push.ensures.processor;
      fault = told_no_fault c.clear.result;
      later = stays (g.K.Sink.faults c.args.sink.now);
    }

pub returns-then-is_full : goal.returns-then-is_full
returns-then-is_full g c =
    let batch = c.args.batch.now in
    record {
      answered = batch_answered g.T.RecordProcessor.expected
          (record { processor = batch.processor; first = batch.first; records = batch.records ++ c.args.bytes ∷ [] })
          c.push.new.self c.process_batch.new.batch c.process_batch.result _ _ c.in-Ok.ensures.pushed
          c.process_batch.ensures.emptied c.process_batch.ensures.answered;
      processor = c.process_batch.ensures.processor ∙ c.push.ensures.processor;
      fault = c.process_batch.ensures.fault;
      later = c.process_batch.ensures.later;
    }
