-- A list that describes a whole digraph describes its tree.
use Rattle.std.proofs.Common.{◌≡◌, ℕ, List, length, sym, ◌∙◌, arith}
use Rattle.std.proofs.lemmas.List.{length-map}
use Rattle.cip_digraph.specs.declared.nodes.NodeData.{NodeData}
use Rattle.cip_digraph.specs.digraph.Digraph.{digraph}
use Rattle.cip_digraph.specs.graph.Graph.{Graph}
use Rattle.cip_digraph.specs.digraph.NodeList.{parents_of}
use Rattle.cip_digraph.specs.digraph.Telling.{TellsWhole}
use Rattle.cip_digraph.proofs.lemmas.numbered.PlaceTrees.{some_nodes, root_first, told_tree, told_whole_children}
use Rattle.cip_aux.specs.WholeDigraph.{IsTold}

pub parents_len : (all : List NodeData) → length (parents_of all) ≡ length all
parents_len all = length-map all (λ (node_data : NodeData). node_data.parent)

pub is_told : (graph : Graph) (positions : List (List ℕ)) (root last : ℕ) (all : List NodeData)
    → TellsWhole graph positions root last all
    → IsTold graph positions root (digraph graph positions root last) all
is_told graph positions root last all whole = record {
  len = sym whole.tells.len ∙ sym (parents_len all);
  whole = record {
    some = let some = some_nodes graph positions root last in omega (arith, some, whole.tells.len, parents_len all);
    tree = told_tree graph positions root last all whole.tells;
    at_root = root_first graph positions root last;
    children =
        λ n h. told_whole_children graph positions root last all whole.tells n whole.none
        (omega (arith, h, parents_len all));
  };
  each = λ n h. whole.tells.each n (omega (arith, h, whole.tells.len));
}
