use Rattle.std.proofs.Common.{◌≡◌, ◌-◌, ◌==◌, length, slice_index}
use Rattle.std.specs.List.{range_with_len}
use Rattle.cip_aux.specs.Neighbours.{first_where}
use Rattle.cip_aux_rank.specs.LigandBranches.{branch_of}
use Rattle.cip_aux_rank.proofs.branches.branch_tops.branch_of.Given as goal

abbrev pub invariant-loop-branch : goal.invariant-loop-branch
invariant-loop-branch l = first_where (λ branch. slice_index l.tops branch == l.ligand)
    (range_with_len l.branch (length l.tops - l.branch)) ≡ branch_of l.tops l.ligand
