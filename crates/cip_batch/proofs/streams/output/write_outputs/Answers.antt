use Rattle.cip_batch.proofs.lemmas.Batches.{no_memory}
use Rattle.cip_batch.proofs.lemmas.Faults.{memory_no_fault, told_no_fault}
use Rattle.cip_batch.proofs.streams.output.write_outputs.Goals as goal

pub returns-in_default-clause-answered : goal.returns-in_default-clause-answered
returns-in_default-clause-answered g c =
    λ expected number records is. no_memory expected number records (g.K.Sink.taken c.args.sink.now)

pub returns-in_default-clause-fault : goal.returns-in_default-clause-fault
returns-in_default-clause-fault g c = memory_no_fault

pub returns-in-Ok-write_joined-clause-answered : goal.returns-in-Ok-write_joined-clause-answered
returns-in-Ok-write_joined-clause-answered g c = λ expected number records is. record {
  holds = c.in-Ok-write_joined.ensures.output expected number records is;
  written = c.in-Ok-write_joined.ensures.written expected number records is;
}

pub returns-in-Ok-write_joined-clause-fault : goal.returns-in-Ok-write_joined-clause-fault
returns-in-Ok-write_joined-clause-fault g c = told_no_fault c.in-Ok-write_joined.verdict

pub returns : goal.returns
returns g c = record {
  answered = c.in-Err.ensures.stopped;
  fault = λ is. c.in-Err.ensures.cause.failed;
  later = c.write_joined.ensures.cause.later;
}
