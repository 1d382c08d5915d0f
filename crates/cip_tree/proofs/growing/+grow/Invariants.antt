use Rattle.std.proofs.Common.{◌≡◌, ◌+◌, ◌-◌, ◌*◌, map, take, slice_index, flat_map}
use Rattle.cip_digraph.specs.graph.Graph.{edges_at}
use Rattle.cip_tree.specs.Along.{edge_below}
use Rattle.cip_tree.specs.Boxed.{grown}
use Rattle.cip_tree.proofs.growing.+grow.Given as goal

abbrev pub decreases-add_edge : goal.decreases-add_edge
decreases-add_edge l = 3 * l.spheres + 2

abbrev pub decreases-add_neighbour : goal.decreases-add_neighbour
decreases-add_neighbour l = 3 * l.spheres + 1

abbrev pub decreases-grow : goal.decreases-grow
decreases-grow l = 3 * l.spheres

abbrev pub invariant-grow-loop-edge : goal.invariant-grow-loop-edge
invariant-grow-loop-edge l = l.children.items ≡ map (grown l.bonding.graph.now l.bonding.positions.now (l.spheres - 1))
    (flat_map (edge_below l.bonding.positions.now l.path.items)
    (take l.edge-index (edges_at l.bonding.graph.now (slice_index l.path.items 0))))
