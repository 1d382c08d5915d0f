use Rattle.std.proofs.Common.{◌≡◌, ◌++◌, ◌==◌, map, drop}
use Rattle.std.specs.Prelude.{filter, flat_map}
use Rattle.cip_digraph.specs.units.Allenes.{axis_sites}
use Rattle.cip_digraph.specs.graph.Graph.{edges_at, other_end}
use Rattle.cip_unit.specs.Sites.{axes_through, units_at}
use Rattle.cip_unit.proofs.axes.push_axes.Given as goal

abbrev pub invariant-loop-edge : goal.invariant-loop-edge
invariant-loop-edge l =
    l.units ++ units_at l.sketch.molecule.now
    (flat_map (axes_through l.sketch.graph.now l.a)
    (map (other_end l.a) (filter (λ edge. edge.order == 2) (drop l.edge-index (edges_at l.sketch.graph.now l.a)))))
    ≡ l.initial.units ++ units_at l.sketch.molecule.now (axis_sites l.sketch.graph.now l.a)
