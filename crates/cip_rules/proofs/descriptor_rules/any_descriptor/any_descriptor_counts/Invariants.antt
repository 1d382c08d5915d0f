use Rattle.std.proofs.Common.{◌≡◌, ◌<◌, ℕ, pos, true, slice_index}
use Rattle.cip_partition.specs.Parting.{has_flag}
use Rattle.cip_rules.specs.Counting.{key_of_descriptor_at}
use Rattle.cip_rules.proofs.descriptor_rules.any_descriptor.any_descriptor_counts.Given as goal

abbrev pub invariant-loop-place : goal.invariant-loop-place
invariant-loop-place g l =
    (k : ℕ) → k < l.place → has_flag l.branches.unresolved (slice_index l.branches.layers.place_tree.branches k) ≡ true
    → key_of_descriptor_at (g.M.DescriptorMap.descriptors l.descriptors) true l.rule l.branches k ≡ pos 0
