use Rattle.std.proofs.Common.{◌≡◌, ◌≤◌, map, take, length, vec_capacity, vec_len}
use Rattle.cip_mol.specs.Reflection.{mirrored_bond}
use Rattle.cip_mol.proofs.mirror.mirrored_bonds.Given as goal

abbrev pub invariant-loop-bond : goal.invariant-loop-bond
invariant-loop-bond l = record {
  so_far : l.mirrored.items ≡ map mirrored_bond (take l.bond-index l.bonds);
  kept : vec_len l.mirrored ≡ l.bond-index;
  room : length l.bonds ≤ vec_capacity l.mirrored;
}
