-- The nodes next to a node, and the ligands of a root among them, by number. Own.
use Rattle.std.specs.Prelude.{ℕ, zero, suc, Bool, cond, ◌==◌, ◌&&◌, List, [], ◌∷◌, ◌++◌, None, Some, slice_index}
use Rattle.std.specs.declared.option.Option.{Option}
use Rattle.cip_mol.specs.declared.site.Ligand.{Ligand}
use Rattle.cip_mol.specs.declared.site.Ligand.TheVariants.{Vertex, LonePair}
use Rattle.cip_rank.specs.Tree.{children_of}
use Rattle.cip_digraph.specs.rules.Auxiliary.{stands_for}
use Rattle.cip_digraph.specs.digraph.Digraph.{Node, is_real}
use Rattle.cip_digraph.specs.declared.nodes.NodeData.{NodeData}
use Rattle.cip_digraph.specs.digraph.NodeList.{told_at}
use Rattle.cip_digraph.specs.digraph.Telling.{node_at}

abbrev pub parent_of : List ℕ → ℕ → List ℕ
parent_of parents zero = []
parent_of parents (suc before) = slice_index parents (suc before) ∷ []

abbrev pub neighbours_of : List ℕ → ℕ → List ℕ
neighbours_of parents node = children_of parents node ++ parent_of parents node

abbrev pub first_where : (ℕ → Bool) → List ℕ → Option ℕ
first_where test [] = None
first_where test (n ∷ ns) = cond (test n) (Some n) (first_where test ns)

-- a node as far as it is known
abbrev pub node_told : NodeData → Node
node_told node_data = record { kind = node_data.kind; path = []; vertex = node_data.vertex }

abbrev pub is_real_of : ℕ → Node → Bool
is_real_of vertex node = is_real node.kind && (node.vertex == vertex)

module _ (nodes : ℕ → Node) (parents : List ℕ) where
  -- the ligand next to a node: the real node or closure of its vertex
  abbrev pub ligand_number : ℕ → Ligand → Option ℕ
  ligand_number node LonePair = None
  ligand_number node (Vertex vertex) =
      first_where (λ number. stands_for vertex (nodes number)) (neighbours_of parents node)

  -- the real child of a vertex
  abbrev pub real_child : ℕ → ℕ → Option ℕ
  real_child node vertex = first_where (λ number. is_real_of vertex (nodes number)) (children_of parents node)

abbrev pub shape_at : List NodeData → ℕ → Node
shape_at all number = node_told (told_at all number)

-- a node as a ligand, and none for a lone pair
abbrev pub ligand_at : List Node → Option ℕ → List Node
ligand_at nodes None = []
ligand_at nodes (Some number) = node_at nodes number ∷ []

-- the vertex of a real node
abbrev pub atom_told : NodeData → Option ℕ
atom_told node_data = cond (is_real node_data.kind) (Some node_data.vertex) None
