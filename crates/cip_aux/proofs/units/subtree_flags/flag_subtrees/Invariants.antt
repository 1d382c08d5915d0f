use Rattle.std.proofs.Common.{◌≡◌, ◌<◌, ◌⊎◌, ℕ, true, length, slice_index}
use Rattle.cip_aux.specs.DescriptorsInside.{flag_at}
use Rattle.cip_aux.proofs.units.subtree_flags.flag_subtrees.Given as goal

abbrev pub invariant-loop-node : goal.invariant-loop-node
invariant-loop-node l = record {
  below : (n : ℕ) → 0 < n → n < l.node → flag_at l.flags (slice_index l.table.parents n) ≡ true
      → flag_at l.flags n ≡ true;
  kept : (n : ℕ) → flag_at l.fn.flags n ≡ true → flag_at l.flags n ≡ true;
  only : (n : ℕ) → flag_at l.flags n ≡ true → (flag_at l.fn.flags n ≡ true)
      ⊎ ((0 < n) × (flag_at l.flags (slice_index l.table.parents n) ≡ true));
  len : length l.flags ≡ length l.fn.flags;
}
