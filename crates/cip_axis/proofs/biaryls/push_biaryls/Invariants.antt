use Rattle.std.proofs.Common.{◌≡◌, ◌++◌, drop}
use Rattle.std.specs.Prelude.{flat_map}
use Rattle.cip_digraph.specs.graph.Graph.{edges_at}
use Rattle.cip_axis.specs.Further.{biaryls_of}
use Rattle.cip_axis.specs.Listing.{one_biaryl}
use Rattle.cip_axis.proofs.biaryls.push_biaryls.Given as goal

abbrev pub invariant-loop-edge : goal.invariant-loop-edge
invariant-loop-edge l =
    let source = l.source in
    l.units ++ flat_map (one_biaryl source.molecule.now source.graph.now source.positions.now l.a) (drop l.edge-index (edges_at source.graph.now l.a))
    ≡ l.initial.units ++ biaryls_of source.molecule.now source.graph.now source.positions.now l.a
