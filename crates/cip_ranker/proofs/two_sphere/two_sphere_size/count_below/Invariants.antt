use Rattle.std.proofs.Common.{◌≡◌, ◌≤◌, ◌*◌, length, take}
use Rattle.std.specs.List.{sum_by}
use Rattle.cip_digraph.specs.digraph.Digraph.{edge_children}
use Rattle.cip_ranker.specs.Counting.{way_up}
use Rattle.cip_ranker.proofs.two_sphere.two_sphere_size.count_below.Given as goal

abbrev pub invariant-loop-edge : goal.invariant-loop-edge
invariant-loop-edge l = record {
  count : l.count ≡ sum_by (λ edge. length (edge_children l.root.positions.now l.vertex (way_up l.above) edge))
      (take l.edge-index l.edge-items);
  small : l.count ≤ 256 * l.edge-index;
}
