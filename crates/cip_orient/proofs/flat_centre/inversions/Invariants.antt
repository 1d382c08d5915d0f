use Rattle.std.proofs.Common.{◌≡◌, ◌+◌, ◌*◌, ◌≤◌, drop}
use Rattle.cip_mol.specs.FlatCentres.{inversions}
use Rattle.cip_orient.proofs.flat_centre.inversions.Given as goal

abbrev pub invariant-loop-number : goal.invariant-loop-number
invariant-loop-number l = record {
  so_far : l.count + inversions (drop l.number l.places) ≡ inversions l.places;
  few : l.count ≤ l.number * 4;
}
