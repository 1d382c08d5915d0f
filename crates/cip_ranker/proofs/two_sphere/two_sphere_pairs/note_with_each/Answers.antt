use Rattle.std.proofs.Common.{arith}
use Rattle.std.proofs.lemmas.Grind.{common_steps}
use Rattle.cip_ranker.proofs.two_sphere.two_sphere_pairs.note_with_each.Goals as goal

pub loop-other-preserved : goal.loop-other-preserved
loop-other-preserved c = grind (arith, common_steps)

pub returns : goal.returns
returns c = grind (arith, common_steps)

pub loop-other-preserved-in-Ok : goal.loop-other-preserved-in-Ok
loop-other-preserved-in-Ok c = grind (arith, common_steps)
