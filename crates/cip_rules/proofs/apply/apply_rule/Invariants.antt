use Rattle.std.proofs.Common.{◌≡◌}
use Rattle.cip_branches.specs.Deciding.{AreFollowed}
use Rattle.cip_rules.specs.Taking.{TakesSoFar}
use Rattle.cip_rules.proofs.apply.apply_rule.Given as goal

abbrev pub invariant-loop-far : goal.invariant-loop-far
invariant-loop-far g l = record {
  so_far : TakesSoFar l.fn.branches (g.K.Keyed.key l.keys) l.rule l.fn.pairs l.far l.branches l.pairs;
  followed : AreFollowed l.branches;
  place_tree : l.branches.layers.place_tree ≡ l.fn.branches.layers.place_tree;
  end : l.branches.last ≡ l.fn.branches.last;
}
