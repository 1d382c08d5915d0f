use Rattle.std.proofs.Common.{subst, sym}
use Rattle.std.proofs.lemmas.List.Elements.{All-push, All-same}
use Rattle.cip_batch.specs.Entries.{AreAnswers, IsAnswer}
use Rattle.cip_batch.proofs.jobs.workers.take_jobs.Goals.{then-owner-worker+in-Ok+in_ok-push, else-owner-worker}
use Rattle.cip_batch.proofs.jobs.workers.take_jobs.Goals as goal

pub loop-place-preserved : goal.loop-place-preserved
loop-place-preserved g c =
    let is = IsAnswer g.J.Job.answer c.args.jobs.now in
    elim c.if-owner-worker.branch [
      | then-owner-worker+in-Ok+in_ok-push w ↦
          subst (λ v. AreAnswers g.J.Job.answer c.args.jobs.now v.items) (sym w.entries-is)
          (All-same is _ _ w.in_ok-push.ensures.items
          (All-push is c.loop-place.entries.items _ c.loop-place.invariant w.in-Ok.ensures))
      | else-owner-worker w ↦
          subst (λ v. AreAnswers g.J.Job.answer c.args.jobs.now v.items) (sym w.entries-is) c.loop-place.invariant
    ]
