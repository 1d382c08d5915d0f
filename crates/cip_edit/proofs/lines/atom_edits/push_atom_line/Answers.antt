use Rattle.std.proofs.Common.{arith}
use Rattle.std.proofs.lemmas.Grind.{common_steps}
use Rattle.cip_edit.specs.Mirror.{mirrored_atom_line}
use Rattle.cip_edit.proofs.lines.atom_edits.push_atom_line.Goals as goal

pub returns-in-Ok-with_height : goal.returns-in-Ok-with_height
unfolding mirrored_atom_line
returns-in-Ok-with_height c = grind (arith, common_steps)
