use Rattle.std.proofs.Common.{◌≡◌, ◌≤◌, take, length}
use Rattle.std.specs.Prelude.{flat_map}
use Rattle.cip_digraph.specs.rings.SmallRings.{with_new}
use Rattle.cip_ring.proofs.search.step_on.Given as goal

abbrev pub invariant-loop-place : goal.invariant-loop-place
invariant-loop-place g l = record {
  value : l.reached ≡ with_new l.initial.reached (flat_map (g.S.Neighbours.step l.steps) (take l.place l.initial.reached));
  upto : l.place ≤ length l.initial.reached;
}
