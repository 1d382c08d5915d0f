use Rattle.std.proofs.Common.{refl, ◌∙◌}
use Rattle.cip_batch.proofs.jobs.workers.work_together.Goals as goal

pub returns-in_default : goal.returns-in_default
returns-in_default g c = record { found = tt; workers = refl }

pub returns-in-Ok : goal.returns-in-Ok
returns-in-Ok g c = record {
  found = c.by_places.ensures.found;
  workers = c.by_places.ensures.workers ∙ c.work_as_dealt.ensures.workers;
}
