use Rattle.std.proofs.Common.{arith}
use Rattle.std.proofs.lemmas.Grind.{common_steps}
use Rattle.cip_orient.proofs.marks.is_crossed_among.Goals as goal

pub returns-then-joins : goal.returns-then-joins
returns-then-joins c = grind (arith, common_steps)

pub loop-bond-preserved : goal.loop-bond-preserved
loop-bond-preserved c = grind (arith, common_steps)

pub returns : goal.returns
returns c = grind (arith, common_steps)
