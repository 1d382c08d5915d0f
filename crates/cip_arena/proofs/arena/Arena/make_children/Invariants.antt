use Rattle.std.proofs.Common.{◌≡◌, ◌≤◌, ◌+◌, length, take}
use Rattle.std.specs.List.{sum_by, fold}
use Rattle.cip_rank.specs.Tree.{last_parent}
use Rattle.cip_digraph.specs.digraph.NodeList.{parents_of}
use Rattle.cip_arena.specs.Walk.{Keeps}
use Rattle.cip_arena.specs.Making.{with_edge, edge_size}
use Rattle.cip_arena.proofs.arena.Arena.make_children.Given as goal

abbrev pub invariant-loop-edge : goal.invariant-loop-edge
invariant-loop-edge g l = record {
  self : l.self ≡ record l.fn.self {
    nodes = fold (with_edge l.graph l.positions l.node l.vertex) l.fn.self.nodes
        (take l.edge-index l.edge-items);
  };
  kept : Keeps l.fn.self.nodes l.self.nodes;
  size : length l.self.nodes ≡ length l.fn.self.nodes + sum_by (edge_size l.fn.self.nodes l.node l.vertex)
      (take l.edge-index l.edge-items);
  last : last_parent (parents_of l.self.nodes) ≤ l.node;
  cost : l.steps + length l.fn.self.nodes ≡ l.fn.steps + length l.self.nodes;
}
