use Rattle.std.proofs.Common.{◌≡◌, drop}
use Rattle.cip_digraph.specs.graph.Graph.{edges_at}
use Rattle.cip_digraph.specs.rings.SmallRings.{with_new}
use Rattle.cip_ring.specs.Aside.{aside_along}
use Rattle.cip_ring.proofs.small_rings.AsideNeighbours.add_steps.Given as goal

abbrev pub invariant-loop-edge : goal.invariant-loop-edge
invariant-loop-edge l =
    with_new l.reached (aside_along l.self.a l.self.b l.from (drop l.edge-index (edges_at l.self.graph.now l.from)))
    ≡ with_new l.initial.reached (aside_along l.self.a l.self.b l.from (edges_at l.self.graph.now l.from))
