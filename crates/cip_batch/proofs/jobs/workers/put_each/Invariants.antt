use Rattle.std.proofs.Common.{◌≡◌, All, IfOk, length}
use Rattle.cip_batch.specs.Entries.{AreAnswers, ArePlaced}
use Rattle.cip_batch.proofs.jobs.workers.put_each.Given as goal

abbrev pub invariant-loop-k : goal.invariant-loop-k
invariant-loop-k g l = record {
  workers : All (λ w. IfOk w.answers (λ v. AreAnswers g.J.Job.answer l.jobs v.items)) l.workers;
  found : ArePlaced g.J.Job.answer l.jobs l.found;
  len : length l.workers ≡ length l.initial.workers;
}
