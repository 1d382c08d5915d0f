use Rattle.std.proofs.Common.{◌≡◌, ◌≤◌, length, take}
use Rattle.cip_mol.proofs.lists.ligands.Ligands.copy.Given as goal

abbrev pub invariant-loop-ligand : goal.invariant-loop-ligand
invariant-loop-ligand l = record {
  so_far : l.copy ≡ take l.ligand-index l.self;
  few : length l.self ≤ 4;
}
