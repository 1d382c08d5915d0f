use Rattle.std.proofs.Common.{arith}
use Rattle.std.proofs.lemmas.Grind.{common_steps}
use Rattle.cip_edit.proofs.lines.atom_edits.MirrorLineEdit.push.Goals as goal

pub returns-else-number-atoms-2 : goal.returns-else-number-atoms-2
returns-else-number-atoms-2 c = grind (arith, common_steps)

pub returns-then-number-atoms-2 : goal.returns-then-number-atoms-2
returns-then-number-atoms-2 c = grind (arith, common_steps)
