use Rattle.std.proofs.Common.{◌≡◌, ◌+◌, ◌*◌, ◌≤◌, drop}
use Rattle.cip_mol.specs.FlatCentres.{inversions}
use Rattle.cip_digraph.proofs.decisions.rank_parity.inversions.Given as goal

abbrev pub invariant-loop-at : goal.invariant-loop-at
invariant-loop-at l = record {
  so_far : l.count + inversions (drop l.at l.places) ≡ inversions l.places;
  few : l.count ≤ l.at * 4;
}
