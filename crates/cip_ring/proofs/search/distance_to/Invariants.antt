use Rattle.std.proofs.Common.{◌≡◌, ◌≤◌, ◌<◌, ℕ, false, take, length}
use Rattle.cip_digraph.specs.rings.Alternating.{is_in}
use Rattle.cip_ring.specs.Neighbours.{NothingNew, within}
use Rattle.cip_ring.proofs.search.distance_to.Given as goal

abbrev pub invariant-loop-taken : goal.invariant-loop-taken
invariant-loop-taken g l = record {
  value : l.reached ≡ within (g.S.Neighbours.step l.steps) l.from l.taken;
  upto : l.done ≤ length l.reached;
  done : NothingNew (g.S.Neighbours.step l.steps) (take l.done l.reached) l.reached;
  before : (k : ℕ) → k < l.taken → is_in l.target (within (g.S.Neighbours.step l.steps) l.from k) ≡ false;
}
