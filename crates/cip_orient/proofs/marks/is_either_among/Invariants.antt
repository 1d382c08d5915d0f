use Rattle.std.proofs.Common.{◌≡◌, drop}
use Rattle.cip_mol.specs.Marks.{has_either}
use Rattle.cip_orient.proofs.marks.is_either_among.Given as goal

abbrev pub invariant-loop-bond : goal.invariant-loop-bond
invariant-loop-bond l = has_either l.atom (drop l.bond-index l.bonds) ≡ has_either l.atom l.bonds
