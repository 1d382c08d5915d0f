use Rattle.std.proofs.Common.{arith}
use Rattle.std.proofs.lemmas.Grind.{common_steps}
use Rattle.cip_edit.proofs.lines.bond_edits.ChangeLineEdit.push.Goals as goal

pub returns-then-number-atoms-2 : goal.returns-then-number-atoms-2
returns-then-number-atoms-2 c = grind (arith, common_steps)

pub returns-then-number-atoms : goal.returns-then-number-atoms
returns-then-number-atoms c = grind (arith, common_steps)

pub returns-else-number-atoms-2 : goal.returns-else-number-atoms-2
returns-else-number-atoms-2 c = grind (arith, common_steps)
