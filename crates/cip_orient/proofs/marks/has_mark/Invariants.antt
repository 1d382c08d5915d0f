use Rattle.std.proofs.Common.{◌≡◌, drop}
use Rattle.cip_mol.specs.Marks.{has_mark}
use Rattle.cip_orient.proofs.marks.has_mark.Given as goal

abbrev pub invariant-loop-mark : goal.invariant-loop-mark
invariant-loop-mark l = has_mark (drop l.mark-index l.marks) ≡ has_mark l.marks
