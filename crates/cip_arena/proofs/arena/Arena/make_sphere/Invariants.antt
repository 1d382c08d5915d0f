use Rattle.std.proofs.Common.{◌≡◌, ◌≤◌, ◌+◌, ◌-◌, length}
use Rattle.cip_rank.specs.Tree.{last_parent}
use Rattle.cip_digraph.specs.digraph.NodeList.{parents_of}
use Rattle.cip_arena.specs.Walk.{Keeps}
use Rattle.cip_arena.specs.Making.{with_sphere, size_upto}
use Rattle.cip_arena.proofs.arena.Arena.make_sphere.Given as goal

abbrev pub invariant-loop-node : goal.invariant-loop-node
invariant-loop-node g l = record {
  low : l.first ≤ l.node;
  at : l.first ≡ l.fn.self.first;
  self : l.self ≡ record l.fn.self {
    nodes = with_sphere l.graph l.positions l.fn.self.nodes l.first (l.node - l.first);
  };
  kept : Keeps l.fn.self.nodes l.self.nodes;
  size : length l.self.nodes ≡ length l.fn.self.nodes + size_upto l.graph l.fn.self.nodes l.first (l.node - l.first);
  last : last_parent (parents_of l.self.nodes) ≤ l.node;
  cost : l.steps + length l.fn.self.nodes ≡ l.fn.steps + length l.self.nodes;
}
