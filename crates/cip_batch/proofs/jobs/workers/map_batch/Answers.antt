use Rattle.std.proofs.Common.{arith, ◌∙◌}
use Rattle.std.proofs.lemmas.List.{length-set}
use Rattle.std.proofs.lemmas.Grind.{common_steps}
use Rattle.cip_batch.proofs.jobs.workers.map_batch.Goals as goal

pub complete-requires-after_bounds : goal.complete-requires-after_bounds
complete-requires-after_bounds g c = grind (arith, common_steps)

pub returns-in-Ok-clause-workers : goal.returns-in-Ok-clause-workers
returns-in-Ok-clause-workers g c =
    length-set c.work_together.new.workers 0 _ ∙ c.work_together.ensures.workers

pub returns-in-Ok-clause-answers : goal.returns-in-Ok-clause-answers
returns-in-Ok-clause-answers g c = c.complete.ensures

pub returns-in-Err : goal.returns-in-Err
returns-in-Err g c = record { answers = tt; workers = c.work_together.ensures.workers }
