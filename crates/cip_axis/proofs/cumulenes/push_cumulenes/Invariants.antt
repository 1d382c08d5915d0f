use Rattle.std.proofs.Common.{◌≡◌, ◌++◌, drop}
use Rattle.cip_digraph.specs.graph.Graph.{edges_at}
use Rattle.cip_axis.specs.Listing.{cumulenes_along}
use Rattle.cip_axis.proofs.cumulenes.push_cumulenes.Given as goal

abbrev pub invariant-loop-edge : goal.invariant-loop-edge
invariant-loop-edge l =
    let source = l.source in
    l.units ++ cumulenes_along source.molecule.now source.graph.now l.a (drop l.edge-index (edges_at source.graph.now l.a))
    ≡ l.initial.units ++ cumulenes_along source.molecule.now source.graph.now l.a (edges_at source.graph.now l.a)
