use Rattle.std.proofs.Common.{◌≡◌, ◌<◌, length}
use Rattle.cip_rank.specs.View.{on_way}
use Rattle.cip_aux_rank.proofs.subtree_descriptors.is_below.Given as goal

abbrev pub invariant-loop-at : goal.invariant-loop-at
invariant-loop-at l = record {
  within : l.at < length l.table.parents;
  same : on_way l.table.parents l.at l.from ≡ on_way l.table.parents l.node l.from;
}

abbrev pub decreases-loop-at : goal.decreases-loop-at
decreases-loop-at l = l.at
