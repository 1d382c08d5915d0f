use Rattle.std.proofs.Common.{◌≡◌, []}
use Rattle.cip_branches.specs.Deciding.{AreFollowed}
use Rattle.cip_rules.specs.Taking.{TakesSoFar}
use Rattle.cip_mol.specs.declared.labels.outcome.Rule.{Rule}
use Rattle.cip_constitution.proofs.rules.constitutional_rules.take_whole.Given as goal

abbrev pub invariant-loop-far : goal.invariant-loop-far
invariant-loop-far g l = record {
  so_far : (rule : Rule) → TakesSoFar l.fn.branches (g.K.Keyed.key l.keys) rule [] l.far l.branches [];
  followed : AreFollowed l.branches;
  place_tree : l.branches.layers.place_tree ≡ l.fn.branches.layers.place_tree;
  end : l.branches.last ≡ l.fn.branches.last;
}
