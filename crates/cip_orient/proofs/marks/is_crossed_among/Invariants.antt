use Rattle.std.proofs.Common.{◌≡◌, drop}
use Rattle.cip_mol.specs.Marks.{is_crossed}
use Rattle.cip_orient.proofs.marks.is_crossed_among.Given as goal

abbrev pub invariant-loop-bond : goal.invariant-loop-bond
invariant-loop-bond l = is_crossed l.a l.b (drop l.bond-index l.bonds) ≡ is_crossed l.a l.b l.bonds
