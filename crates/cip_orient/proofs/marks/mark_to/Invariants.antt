use Rattle.std.proofs.Common.{◌≡◌, drop}
use Rattle.cip_mol.specs.Marks.{mark_to}
use Rattle.cip_orient.proofs.marks.mark_to.Given as goal

abbrev pub invariant-loop-bond : goal.invariant-loop-bond
invariant-loop-bond l = mark_to l.atom (drop l.bond-index l.bonds) l.neighbour ≡ mark_to l.atom l.bonds l.neighbour
