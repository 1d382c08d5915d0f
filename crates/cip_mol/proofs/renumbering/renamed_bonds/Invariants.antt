use Rattle.std.proofs.Common.{◌≡◌, ◌≤◌, map, take, length, vec_capacity, vec_len}
use Rattle.cip_mol.specs.RenumberedDrawing.{place_of, renamed}
use Rattle.cip_mol.proofs.renumbering.renamed_bonds.Given as goal

abbrev pub invariant-loop-bond : goal.invariant-loop-bond
invariant-loop-bond l = record {
  so_far : l.between.items ≡ map (renamed (place_of l.atoms)) (take l.bond-index l.bonds);
  kept : vec_len l.between ≡ l.bond-index;
  room : length l.bonds ≤ vec_capacity l.between;
}
