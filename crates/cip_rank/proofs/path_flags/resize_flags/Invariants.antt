use Rattle.std.proofs.Common.{◌≡◌, ◌≤◌, ◌-◌, ℕ, false, length, vec_capacity}
use Rattle.std.specs.List.{slice_index_or}
use Rattle.cip_rank.proofs.path_flags.resize_flags.Given as goal

abbrev pub invariant-loop-flags : goal.invariant-loop-flags
invariant-loop-flags l = record {
  off : (x : ℕ) → slice_index_or l.flags.items x false ≡ false;
  room : vec_capacity l.fn.flags ≤ vec_capacity l.flags;
}

abbrev pub decreases-loop-flags : goal.decreases-loop-flags
decreases-loop-flags l = l.count - length l.flags.items
