use Rattle.std.proofs.Common.{◌≡◌, drop}
use Rattle.std.specs.List.{list_any}
use Rattle.cip_aux_rank.specs.LigandBranches.{is_ligand}
use Rattle.cip_aux_rank.proofs.branches.branch_tops.is_asked.Given as goal

abbrev pub invariant-loop-ligand : goal.invariant-loop-ligand
invariant-loop-ligand l =
    list_any (is_ligand l.node) (drop l.ligand-index l.ligands) ≡ list_any (is_ligand l.node) l.ligands
