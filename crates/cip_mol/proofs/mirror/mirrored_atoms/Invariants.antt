use Rattle.std.proofs.Common.{◌≡◌, ◌≤◌, map, take, length, vec_capacity, vec_len}
use Rattle.cip_mol.specs.Reflection.{mirrored_atom}
use Rattle.cip_mol.proofs.mirror.mirrored_atoms.Given as goal

abbrev pub invariant-loop-atom : goal.invariant-loop-atom
invariant-loop-atom l = record {
  so_far : l.mirrored.items ≡ map mirrored_atom (take l.atom-index l.atoms);
  kept : vec_len l.mirrored ≡ l.atom-index;
  room : length l.atoms ≤ vec_capacity l.mirrored;
}
