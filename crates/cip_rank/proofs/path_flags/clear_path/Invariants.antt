use Rattle.std.proofs.Common.{vec_capacity, ◌≡◌, ◌≤◌, ◌<◌, ℕ, false, length}
use Rattle.std.specs.List.{slice_index_or}
use Rattle.cip_rank.specs.View.{is_above}
use Rattle.cip_rank.proofs.path_flags.clear_path.Given as goal

abbrev pub invariant-loop-node : goal.invariant-loop-node
invariant-loop-node l = record {
  node : l.node < length l.table.parents;
  len : length l.flags.items ≡ length l.fn.flags.items;
  room : vec_capacity l.flags ≡ vec_capacity l.fn.flags;
  others : (x : ℕ) → length l.table.parents ≤ x → slice_index_or l.flags.items x false ≡ false;
  each : (x : ℕ) → x < length l.table.parents → slice_index_or l.flags.items x false ≡ is_above l.table.parents l.node l.node x;
}

abbrev pub decreases-loop-node : goal.decreases-loop-node
decreases-loop-node l = l.node
