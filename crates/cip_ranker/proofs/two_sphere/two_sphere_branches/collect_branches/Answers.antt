use Rattle.std.proofs.Common.{arith}
use Rattle.std.proofs.lemmas.Grind.{common_steps}
use Rattle.cip_ranker.proofs.two_sphere.two_sphere_branches.collect_branches.Goals as goal

pub loop-rest-preserved : goal.loop-rest-preserved
loop-rest-preserved c = grind (arith, common_steps)

pub loop-rest-preserved-in-Ok : goal.loop-rest-preserved-in-Ok
loop-rest-preserved-in-Ok c = grind (arith, common_steps)

pub returns : goal.returns
returns c = grind (arith, common_steps)
