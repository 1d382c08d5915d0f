use Rattle.std.proofs.Common.{arith}
use Rattle.std.proofs.lemmas.Grind.{common_steps}
use Rattle.cip_edit.proofs.centres.eligible_bond.first_eligible.Goals as goal

pub returns : goal.returns
returns c = grind (arith, common_steps)

pub loop-number-preserved : goal.loop-number-preserved
loop-number-preserved c = grind (arith, common_steps)

pub returns-then-eligible : goal.returns-then-eligible
returns-then-eligible c = grind (arith, common_steps)
