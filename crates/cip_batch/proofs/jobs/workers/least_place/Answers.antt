use Rattle.std.proofs.Common.{arith, ◌≤◌, All, slice_index, subst}
use Rattle.std.proofs.lemmas.List.{take_all}
use Rattle.std.proofs.lemmas.Grind.{common_steps}
use Rattle.cip_batch.proofs.jobs.workers.least_place.Goals as goal

pub loop-place-preserved : goal.loop-place-preserved
loop-place-preserved c = grind (arith, common_steps)

pub returns-clause-least : goal.returns-clause-least
returns-clause-least c =
    subst (All (λ load. slice_index c.args.loads.now c.loop-place.least ≤ load))
    (take_all c.loop-place.place c.args.loads.now c.loop-place-test.false) c.loop-place.invariant.least
