use Rattle.std.proofs.Common.{◌≡◌, take}
use Rattle.cip_digraph.specs.graph.Graph.{edges_at}
use Rattle.cip_mancude.specs.Partners.{positions_along}
use Rattle.cip_mancude.proofs.bond_positions.positions_at.Given as goal

abbrev pub invariant-loop-edge : goal.invariant-loop-edge
invariant-loop-edge l =
    l.positions.items ≡ positions_along l.alternation l.double.vertex (take l.edge-index (edges_at l.alternation l.double.vertex))
