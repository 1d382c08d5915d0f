use Rattle.std.proofs.Common.{◌≡◌, ◌++◌, drop, length}
use Rattle.cip_mol.specs.FlatCentres.{turned_by_place}
use Rattle.cip_orient.proofs.flat_centre.turned_by_place.Given as goal

abbrev pub invariant-loop-number : goal.invariant-loop-number
invariant-loop-number l = record {
  so_far : l.votes ++ turned_by_place (drop l.number l.places)
      (drop l.number l.marks) ≡ turned_by_place l.places l.marks;
  counted : length l.votes ≡ l.number;
}
