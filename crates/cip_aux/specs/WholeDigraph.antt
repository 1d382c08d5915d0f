-- The nodes of a whole digraph by number, the tree that they form, and what is known of each. Own.
use Rattle.std.specs.Prelude.{◌≡◌, ◌<◌, ℕ, List, [], map, length}
use Rattle.cip_rank.specs.Tree.{IsTree, children_of}
use Rattle.cip_digraph.specs.declared.nodes.NodeData.{NodeData}
use Rattle.cip_digraph.specs.digraph.Digraph.{Node, real_node, children}
use Rattle.cip_digraph.specs.graph.Graph.{Graph}
use Rattle.cip_digraph.specs.digraph.NodeList.{told_at, parents_of}
use Rattle.cip_digraph.specs.digraph.Telling.{node_at, TellsOf}

pub record IsWhole (graph : Graph) (positions : List (List ℕ)) (root : ℕ) (nodes : List Node) (parents : List ℕ) : Type
    0 where
  pub some : 0 < length parents
  pub tree : IsTree parents
  pub at_root : node_at nodes 0 ≡ real_node root []
  pub children : (number : ℕ) → number < length parents
      → map (node_at nodes) (children_of parents number) ≡ children graph positions (node_at nodes number)

pub record IsTold (graph : Graph) (positions : List (List ℕ)) (root : ℕ) (nodes : List Node) (all : List NodeData) : Type
    0 where
  pub len : length nodes ≡ length (parents_of all)
  pub whole : IsWhole graph positions root nodes (parents_of all)
  pub each : (number : ℕ) → number < length nodes
      → TellsOf graph positions nodes (node_at nodes number) (told_at all number)
