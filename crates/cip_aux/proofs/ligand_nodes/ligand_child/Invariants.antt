use Rattle.std.proofs.Common.{◌≡◌, ◌≤◌, ◌-◌, length}
use Rattle.std.specs.List.{range_with_len}
use Rattle.cip_rank.specs.Tree.{children_of}
use Rattle.cip_digraph.specs.rules.Auxiliary.{stands_for}
use Rattle.cip_digraph.specs.digraph.NodeList.{parents_of}
use Rattle.cip_aux.specs.Neighbours.{first_where, shape_at}
use Rattle.cip_aux.proofs.ligand_nodes.ligand_child.Given as goal

abbrev pub invariant-loop-child : goal.invariant-loop-child
invariant-loop-child g l = record {
  within : l.past ≤ length (g.N.Nodes.nodes l.nodes);
  left : first_where (λ number. stands_for l.vertex (shape_at (g.N.Nodes.nodes l.nodes) number))
      (range_with_len l.child (l.past - l.child))
      ≡ first_where (λ number. stands_for l.vertex (shape_at (g.N.Nodes.nodes l.nodes) number))
      (children_of (parents_of (g.N.Nodes.nodes l.nodes)) l.node);
}
