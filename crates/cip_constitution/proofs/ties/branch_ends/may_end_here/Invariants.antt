use Rattle.std.proofs.Common.{◌≡◌, ◌≢◌, ◌<◌, ◌≤◌, ℕ, false, slice_index}
use Rattle.cip_constitution.proofs.ties.branch_ends.may_end_here.Given as goal

abbrev pub invariant-loop-place : goal.invariant-loop-place
invariant-loop-place l = record {
  none : l.found ≡ false → (k : ℕ) → l.trial.branches.now.first ≤ k → k < l.place
      → slice_index l.trial.branches.now.layers.place_tree.branches k ≢ l.branch;
}
