use Rattle.std.proofs.Common.{ap, refl}
use Rattle.cip_batch.specs.Batches.{Gathered}
use Rattle.cip_batch.proofs.jobs.batch.process_batch.Goals as goal

pub returns-in-Err : goal.returns-in-Err
returns-in-Err g c = record {
  answered = c.in-Err.ensures.answered;
  emptied = tt;
  processor = refl;
  fault = c.in-Err.ensures.fault;
  later = c.in-Err.ensures.later;
}

pub returns-in-Ok : goal.returns-in-Ok
returns-in-Ok g c = record {
  answered = c.in-Ok.ensures.answered;
  emptied = c.empty.ensures;
  processor = ap (λ (batch : Gathered _). batch.processor) c.empty.ensures;
  fault = c.in-Ok.ensures.fault;
  later = c.in-Ok.ensures.later;
}
