use Rattle.std.proofs.Common.{◌≡◌, ◌≤◌, ◌*◌, take}
use Rattle.std.specs.List.{sum_by}
use Rattle.cip_arena.specs.Making.{edge_size}
use Rattle.cip_arena.proofs.sphere_sizes.node_size.Given as goal

abbrev pub invariant-loop-edge : goal.invariant-loop-edge
invariant-loop-edge l = record {
  size : l.size ≡ sum_by (edge_size l.nodes l.node l.vertex) (take l.edge-index l.edge-items);
  small : l.size ≤ 256 * l.edge-index;
}
