use Rattle.std.proofs.Common.{◌≡◌, ◌++◌, ◌==◌, map, drop}
use Rattle.std.specs.Prelude.{filter, flat_map}
use Rattle.cip_digraph.specs.graph.Graph.{edges_at, other_end}
use Rattle.cip_unit.specs.Sites.{axes_through, one_axis_site, units_at}
use Rattle.cip_unit.proofs.axes.push_axes_through.Given as goal

abbrev pub invariant-loop-edge : goal.invariant-loop-edge
invariant-loop-edge l =
    l.units ++ units_at l.sketch.molecule.now
    (flat_map (one_axis_site l.sketch.graph.now l.a l.middle)
    (map (other_end l.middle) (filter (λ edge. edge.order == 2)
    (drop l.edge-index (edges_at l.sketch.graph.now l.middle)))))
    ≡ l.initial.units ++ units_at l.sketch.molecule.now (axes_through l.sketch.graph.now l.a l.middle)
