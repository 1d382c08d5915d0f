use Rattle.std.proofs.Common.{◌≡◌, drop}
use Rattle.cip_digraph.specs.graph.Graph.{edges_at}
use Rattle.cip_mancude.specs.SharedRings.{ring_along}
use Rattle.cip_mancude.proofs.shared_rings.ring_along.Given as goal

abbrev pub invariant-loop-edge : goal.invariant-loop-edge
invariant-loop-edge l =
    ring_along l.alternation l.most l.third l.start.vertex (drop l.edge-index (edges_at l.alternation l.start.vertex))
    ≡ ring_along l.alternation l.most l.third l.start.vertex (edges_at l.alternation l.start.vertex)
