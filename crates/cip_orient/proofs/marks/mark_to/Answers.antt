use Rattle.std.proofs.Common.{arith}
use Rattle.std.proofs.lemmas.Grind.{common_steps}
use Rattle.cip_orient.proofs.marks.mark_to.Goals as goal

pub returns-then-bond-neighbour : goal.returns-then-bond-neighbour
returns-then-bond-neighbour c = grind (arith, common_steps)

pub loop-bond-preserved : goal.loop-bond-preserved
loop-bond-preserved c = grind (arith, common_steps)
