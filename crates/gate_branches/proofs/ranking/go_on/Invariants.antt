use Rattle.std.proofs.Common.{◌≡◌}
use Rattle.cip_branches.specs.Deciding.{AreFollowed}
use Rattle.gate_branches.proofs.ranking.go_on.Given as goal

abbrev pub invariant-loop-far : goal.invariant-loop-far
invariant-loop-far l = record {
  followed : AreFollowed l.branches;
  place_tree : l.branches.layers.place_tree ≡ l.fn.branches.layers.place_tree;
  last : l.branches.last ≡ l.last;
}
