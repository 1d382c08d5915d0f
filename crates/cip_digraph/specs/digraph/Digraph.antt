-- The hierarchical digraph of a graph from a root: all paths without a repeated vertex, with duplicates. IUPAC 2013,
-- P-92.1.4; the numbering of spheres from the root's 0 is own.
use Rattle.std.specs.Prelude.{ℕ, zero, suc, ◌-◌, ◌==◌, ◌&&◌, Bool, true, false, List, [], ◌∷◌, ◌++◌, replicate, flat_map, if◌then◌else◌}
use Rattle.cip_digraph.specs.declared.drawing.graph.Edge.{Edge}
use Rattle.cip_digraph.specs.graph.Graph.{Graph, edges_at, other_end}
use Rattle.cip_digraph.specs.rings.Alternating.{is_in}
use Rattle.cip_digraph.specs.rings.Positions.{is_delocalised}
pub use Rattle.cip_digraph.specs.declared.nodes.NodeKind.{NodeKind}
pub use Rattle.cip_digraph.specs.declared.nodes.NodeKind.TheVariants.{Real, Closure, Multiple, Delocalised}

-- A real node has the path of vertices from its own back to the root. A duplicate has the path of the real node that
-- carries it, and the vertex that it repeats: if delocalised, that of its carrier.
pub record Node : Type 0 where
  pub kind : NodeKind
  pub path : List ℕ
  pub vertex : ℕ

abbrev pub real_node : ℕ → List ℕ → Node
real_node vertex up = record { kind = Real; path = vertex ∷ up; vertex = vertex }

abbrev pub duplicate : NodeKind → ℕ → List ℕ → Node
duplicate kind vertex path = record { kind = kind; path = path; vertex = vertex }

abbrev pub is_real : NodeKind → Bool
is_real Real = true
is_real Closure = false
is_real Multiple = false
is_real Delocalised = false

abbrev pub begins_with : ℕ → List ℕ → Bool
begins_with vertex [] = false
begins_with vertex (first ∷ path) = first == vertex

-- what a neighbour gives below the real node of a vertex that came along a path: the parent nothing, another vertex of
-- the path a closure, and any other vertex a real node
abbrev pub neighbour_child : ℕ → List ℕ → ℕ → List Node
neighbour_child vertex up other =
    if begins_with other up then []
    else if is_in other (vertex ∷ up) then duplicate Closure other (vertex ∷ up) ∷ []
    else real_node other (vertex ∷ up) ∷ []

-- the duplicates of a counted multiple bond, one of a double bond and two of a triple bond
abbrev pub bond_children : List (List ℕ) → Edge → ℕ → List ℕ → List Node
bond_children positions edge vertex up =
    if edge.counted
    then replicate (edge.order - 1)
    (if (edge.order == 2) && is_delocalised positions vertex then duplicate Delocalised vertex (vertex ∷ up)
    else duplicate Multiple (other_end vertex edge) (vertex ∷ up))
    else []

abbrev pub edge_children : List (List ℕ) → ℕ → List ℕ → Edge → List Node
edge_children positions vertex up edge =
    neighbour_child vertex up (other_end vertex edge) ++ bond_children positions edge vertex up

-- below the real node of a vertex that came along a path
unfoldable pub real_children : Graph → List (List ℕ) → ℕ → List ℕ → List Node
real_children graph positions vertex up = flat_map (edge_children positions vertex up) (edges_at graph vertex)

abbrev pub path_children : Graph → List (List ℕ) → List ℕ → List Node
path_children graph positions [] = []
path_children graph positions (vertex ∷ up) = real_children graph positions vertex up

-- duplicates have no children
abbrev pub children : Graph → List (List ℕ) → Node → List Node
children graph positions node = if is_real node.kind then path_children graph positions node.path else []

abbrev pub sphere : Graph → List (List ℕ) → ℕ → ℕ → List Node
sphere graph positions root zero = real_node root [] ∷ []
sphere graph positions root (suc before) = flat_map (children graph positions) (sphere graph positions root before)

-- the nodes up to a sphere
abbrev pub digraph : Graph → List (List ℕ) → ℕ → ℕ → List Node
digraph graph positions root zero = sphere graph positions root zero
digraph graph positions root (suc before) =
    digraph graph positions root before ++ sphere graph positions root (suc before)
