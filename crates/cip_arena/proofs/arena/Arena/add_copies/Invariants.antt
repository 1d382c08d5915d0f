use Rattle.std.proofs.Common.{◌≡◌, ◌≤◌, ◌+◌, ◌++◌, length, replicate}
use Rattle.cip_rank.specs.Tree.{last_parent}
use Rattle.cip_digraph.specs.digraph.NodeList.{parents_of}
use Rattle.cip_arena.proofs.arena.Arena.add_copies.Given as goal

abbrev pub invariant-loop : goal.invariant-loop
invariant-loop g l = record {
  self : l.self ≡ record l.fn.self { nodes = l.fn.self.nodes ++ replicate l.counter l.node };
  len : length l.self.nodes ≡ length l.fn.self.nodes + l.counter;
  last : last_parent (parents_of l.self.nodes) ≤ l.node.parent;
  cost : l.steps ≡ l.fn.steps + l.counter;
}
