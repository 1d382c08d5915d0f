-- Which node of a list stands for a ligand of the root, and how ligands compare by rank numbers. Own.
use Rattle.std.specs.Prelude.{◌==◌, ℕ, Bool, true, false, cond, not, List, [], ◌∷◌, None, Some, slice_index, unwrap_or}
use Rattle.std.specs.declared.option.Option.{Option}
use Rattle.cip_rank.specs.Tree.{children_of}
use Rattle.cip_mol.specs.declared.site.Ligand.{Ligand}
use Rattle.cip_mol.specs.declared.site.Ligand.TheVariants.{Vertex, LonePair}
use Rattle.cip_digraph.specs.declared.nodes.NodeData.{NodeData}
use Rattle.cip_digraph.specs.rules.Auxiliary.{stands_for}
use Rattle.cip_digraph.specs.digraph.Digraph.{duplicate}
use Rattle.cip_digraph.specs.digraph.NodeList.{told_at, parents_of}

abbrev pub stands_told : ℕ → NodeData → Bool
stands_told vertex node_data = stands_for vertex (duplicate node_data.kind node_data.vertex [])

abbrev pub first_standing : List NodeData → ℕ → List ℕ → Option ℕ
first_standing all vertex [] = None
first_standing all vertex (node ∷ nodes) =
    cond (stands_told vertex (told_at all node)) (Some node) (first_standing all vertex nodes)

-- the first child of the root that stands for a ligand
abbrev pub ligand_number : List NodeData → Ligand → Option ℕ
ligand_number all LonePair = None
ligand_number all (Vertex vertex) = first_standing all vertex (children_of (parents_of all) 0)

-- the child of the root that stands for a vertex, or the root
abbrev pub number_at : List NodeData → ℕ → ℕ
number_at all vertex = unwrap_or (ligand_number all (Vertex vertex)) 0

-- two ligands have different ranks; a lone pair's is its own
abbrev pub have_other_ranks : List ℕ → Option ℕ → Option ℕ → Bool
have_other_ranks ranks None None = false
have_other_ranks ranks None (Some b) = true
have_other_ranks ranks (Some a) None = true
have_other_ranks ranks (Some a) (Some b) = not (slice_index ranks a == slice_index ranks b)

abbrev pub differ_told : List ℕ → List NodeData → Ligand → Ligand → Bool
differ_told ranks all a b = have_other_ranks ranks (ligand_number all a) (ligand_number all b)
