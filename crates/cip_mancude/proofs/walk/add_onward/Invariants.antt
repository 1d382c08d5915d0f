use Rattle.std.proofs.Common.{◌≡◌, drop}
use Rattle.cip_digraph.specs.graph.Graph.{edges_at}
use Rattle.cip_digraph.specs.rings.SmallRings.{with_new}
use Rattle.cip_mancude.specs.Walks.{onward, onward_along}
use Rattle.cip_mancude.proofs.walk.add_onward.Given as goal

abbrev pub invariant-loop-edge : goal.invariant-loop-edge
invariant-loop-edge l =
    with_new l.reached (onward_along l.alternation l.at (drop l.edge-index (edges_at l.alternation l.at)))
    ≡ with_new l.initial.reached (onward l.alternation l.at)
