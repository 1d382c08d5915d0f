use Rattle.std.proofs.Common.{◌≡◌, ◌<◌, ℕ, true, slice_index}
use Rattle.cip_partition.specs.Parting.{has_flag}
use Rattle.cip_aux_rank.proofs.branches.unresolved.are_children.Given as goal

abbrev pub invariant-loop-branch : goal.invariant-loop-branch
invariant-loop-branch l = (branch : ℕ) → branch < l.branch → has_flag l.branches.unresolved branch ≡ true
    → l.node < slice_index l.tops branch
