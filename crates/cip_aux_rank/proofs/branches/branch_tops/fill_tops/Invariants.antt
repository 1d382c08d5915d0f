use Rattle.std.proofs.Common.{◌≡◌, ◌≤◌, ◌-◌, filter}
use Rattle.std.specs.List.{list_any, range_with_len}
use Rattle.cip_aux_rank.specs.LigandBranches.{is_ligand}
use Rattle.cip_aux_rank.proofs.branches.branch_tops.fill_tops.Given as goal

abbrev pub invariant-loop-child : goal.invariant-loop-child
invariant-loop-child l = record {
  high : l.child ≤ l.past;
  pushed : l.tops ≡ record l.fn.tops {
    items = filter (λ top. list_any (is_ligand top) l.ligands) (range_with_len l.first (l.child - l.first));
  };
}
