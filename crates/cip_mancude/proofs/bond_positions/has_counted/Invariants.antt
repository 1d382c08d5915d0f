use Rattle.std.proofs.Common.{◌≡◌, drop}
use Rattle.std.specs.List.{list_any}
use Rattle.cip_mancude.proofs.bond_positions.has_counted.Given as goal

abbrev pub invariant-loop-edge : goal.invariant-loop-edge
invariant-loop-edge l =
    list_any (λ edge. edge.counted) (drop l.edge-index l.graph.edges) ≡ list_any (λ edge. edge.counted) l.graph.edges
