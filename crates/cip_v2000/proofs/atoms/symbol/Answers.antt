use Rattle.std.proofs.Common.{arith}
use Rattle.std.proofs.lemmas.Grind.{common_steps}
use Rattle.cip_v2000.proofs.atoms.symbol.Goals as goal

pub returns-in-false-true-true : goal.returns-in-false-true-true
returns-in-false-true-true c = grind (arith, common_steps)

pub returns-in-true-true-false : goal.returns-in-true-true-false
returns-in-true-true-false c = grind (arith, common_steps)

pub returns-in-false-false-true : goal.returns-in-false-false-true
returns-in-false-false-true c = grind (arith, common_steps)
