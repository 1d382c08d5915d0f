use Rattle.std.proofs.Common.{◌≡◌, ◌-◌, ◌+◌, length}
use Rattle.cip_aux.specs.Views.{sight_of}
use Rattle.cip_aux_rank.proofs.lemmas.FollowedViews.{AreAround, IsNoted}
use Rattle.cip_aux_rank.proofs.branches.follow.follow_to_end.Given as goal

abbrev pub invariant-loop-keys : goal.invariant-loop-keys
invariant-loop-keys g l = record {
  around : AreAround (sight_of l.whole) l.way l.node l.tops l.branches;
  noted : IsNoted (sight_of l.whole) l.node l.tops (l.branches.last + 1) l.fn.requested l.requested;
  room : l.branches.layers.place_tree.room ≡ l.fn.branches.layers.place_tree.room;
}

abbrev pub decreases-loop-keys : goal.decreases-loop-keys
decreases-loop-keys g l = length l.whole.node_data - l.branches.first
