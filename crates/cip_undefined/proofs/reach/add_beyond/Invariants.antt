use Rattle.std.proofs.Common.{◌≡◌, drop}
use Rattle.cip_digraph.specs.graph.Graph.{edges_at}
use Rattle.cip_digraph.specs.rings.SmallRings.{with_new}
use Rattle.cip_undefined.specs.Branches.{beyond_along}
use Rattle.cip_undefined.proofs.reach.add_beyond.Given as goal

abbrev pub invariant-loop-edge : goal.invariant-loop-edge
invariant-loop-edge l =
    with_new l.reached (beyond_along l.root l.vertex (drop l.edge-index (edges_at l.graph l.vertex)))
    ≡ with_new l.initial.reached (beyond_along l.root l.vertex (edges_at l.graph l.vertex))
