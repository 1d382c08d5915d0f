use Rattle.std.proofs.Common.{◌≡◌, ◌≤◌, take, length}
use Rattle.cip_ring.specs.Neighbours.{NothingNew, within}
use Rattle.cip_ring.proofs.search.reach_within.Given as goal

abbrev pub invariant-loop : goal.invariant-loop
invariant-loop g l = record {
  value : l.reached ≡ within (g.S.Neighbours.step l.steps) l.from l.counter;
  within : l.done ≤ length l.reached;
  done : NothingNew (g.S.Neighbours.step l.steps) (take l.done l.reached) l.reached;
}
