use Rattle.std.proofs.Common.{◌≡◌, ◌≤◌, ◌+◌, ◌^◌, [], drop, flat_map, length}
use Rattle.cip_digraph.specs.digraph.Digraph.{children, digraph, edge_children}
use Rattle.cip_ranker.proofs.two_sphere.two_sphere_size.fits_bound.Given as goal

abbrev pub invariant-loop-edge : goal.invariant-loop-edge
invariant-loop-edge l = record {
  count : l.count + length (flat_map (children l.root.graph.now l.root.positions.now)
      (flat_map (edge_children l.root.positions.now l.root.at []) (drop l.edge-index l.edge-items)))
      ≡ length (digraph l.root.graph.now l.root.positions.now l.root.at 2);
  small : l.count ≤ 2 ^ 41;
}
