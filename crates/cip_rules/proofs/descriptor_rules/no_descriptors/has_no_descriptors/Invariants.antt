use Rattle.std.proofs.Common.{◌≡◌, ◌<◌, ℕ, true, slice_index}
use Rattle.std.specs.Prelude.{None}
use Rattle.std.specs.List.{slice_index_or}
use Rattle.cip_partition.specs.Parting.{has_flag}
use Rattle.cip_rules.proofs.descriptor_rules.no_descriptors.has_no_descriptors.Given as goal

abbrev pub invariant-loop-place : goal.invariant-loop-place
invariant-loop-place g l =
    (k : ℕ) → k < l.place → has_flag l.branches.unresolved (slice_index l.branches.layers.place_tree.branches k) ≡ true
    → slice_index_or (g.M.DescriptorMap.descriptors l.descriptors) (slice_index l.branches.layers.place_tree.nodes k) None ≡ None
