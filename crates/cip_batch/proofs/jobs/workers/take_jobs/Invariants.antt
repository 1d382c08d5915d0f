use Rattle.cip_batch.specs.Entries.{AreAnswers}
use Rattle.cip_batch.proofs.jobs.workers.take_jobs.Given as goal

abbrev pub invariant-loop-place : goal.invariant-loop-place
invariant-loop-place g l = AreAnswers g.J.Job.answer l.jobs l.entries.items
