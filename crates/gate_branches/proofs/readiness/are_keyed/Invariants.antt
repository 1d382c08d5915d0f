use Rattle.std.proofs.Common.{◌<◌, ℕ, length, slice_index}
use Rattle.gate_branches.proofs.readiness.are_keyed.Given as goal

abbrev pub invariant-loop-place : goal.invariant-loop-place
invariant-loop-place l = record {
  each : (k : ℕ) → k < l.place → slice_index l.branches.layers.place_tree.nodes k < length l.digraph.parents;
}
