use Rattle.std.proofs.Common.{◌≡◌, ◌≤◌}
use Rattle.cip_arena.specs.Walk.{walk}
use Rattle.cip_arena.proofs.ancestors.find_on.Given as goal

abbrev pub invariant-loop-at : goal.invariant-loop-at
invariant-loop-at l = record {
  low : l.at ≤ l.node;
  same : walk l.nodes l.at l.vertex ≡ walk l.nodes l.node l.vertex;
}

abbrev pub decreases-loop-at : goal.decreases-loop-at
decreases-loop-at l = l.at
