use Rattle.std.proofs.Common.{◌≡◌, ◌≤◌, ◌<◌, ◌++◌, All, drop, length}
use Rattle.cip_mol.specs.DrawnLigands.{drawn}
use Rattle.cip_orient.proofs.drawn_ligands.drawn_atoms.Given as goal

abbrev pub invariant-loop-ligand : goal.invariant-loop-ligand
invariant-loop-ligand l = record {
  so_far : l.numbers ++ drawn l.atoms (drop l.ligand-index l.ligands) ≡ drawn l.atoms l.ligands;
  few : length l.numbers ≤ l.ligand-index;
  within : All (λ number. number < l.atoms) l.numbers;
}
