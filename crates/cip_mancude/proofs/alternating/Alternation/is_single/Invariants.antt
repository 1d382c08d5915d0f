use Rattle.std.proofs.Common.{◌≡◌, ◌==◌, drop, map}
use Rattle.std.specs.Prelude.{filter}
use Rattle.cip_digraph.specs.rings.Alternating.{is_in, singles}
use Rattle.cip_digraph.specs.graph.Graph.{edges_at, other_end}
use Rattle.cip_mancude.proofs.alternating.Alternation.is_single.Given as goal

abbrev pub invariant-loop-edge : goal.invariant-loop-edge
invariant-loop-edge l =
    is_in l.other
    (map (other_end l.vertex) (filter (λ edge. edge.order == 1) (drop l.edge-index (edges_at l.self l.vertex))))
    ≡ is_in l.other (singles l.self l.vertex)
