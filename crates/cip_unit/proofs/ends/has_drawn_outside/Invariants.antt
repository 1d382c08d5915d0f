use Rattle.std.proofs.Common.{◌≡◌, map, drop}
use Rattle.std.specs.Prelude.{filter, nat_lt, not}
use Rattle.std.specs.List.{list_any}
use Rattle.cip_digraph.specs.rings.Alternating.{is_in}
use Rattle.cip_digraph.specs.graph.Graph.{edges_at, other_end}
use Rattle.cip_unit.specs.Sites.{has_drawn_outside}
use Rattle.cip_unit.proofs.ends.has_drawn_outside.Given as goal

abbrev pub invariant-loop-edge : goal.invariant-loop-edge
invariant-loop-edge l =
    list_any (λ other. nat_lt other l.graph.drawn)
    (filter (λ other. not (is_in other l.unit)) (map (other_end l.atom) (drop l.edge-index (edges_at l.graph l.atom))))
    ≡ has_drawn_outside l.graph l.unit l.atom
