-- The graph of a molecule: its atoms and implicit hydrogens as vertices, its bonds as edges. Own.
use Rattle.std.specs.Prelude.{ℕ, pos, Bool, false, ◌==◌, ◌||◌, List, [], ◌∷◌, map, filter, nat_lt, slice_index_or, if◌then◌else◌}
use Rattle.cip_digraph.specs.declared.drawing.graph.Vertex.{Vertex}
use Rattle.cip_digraph.specs.declared.drawing.graph.Edge.{Edge}

-- the first vertices, as many as are drawn, are the atoms of the drawing in their order; the others are implicit
-- hydrogens
pub record Graph : Type 0 where
  pub vertices : List Vertex
  pub edges : List Edge
  pub drawn : ℕ

abbrev pub no_vertex : Vertex
no_vertex = record { z = 0; isotope = 0; charge = pos 0; lone = false }

abbrev pub vertex_at : Graph → ℕ → Vertex
vertex_at graph vertex = slice_index_or graph.vertices vertex no_vertex

abbrev pub touches : ℕ → Edge → Bool
touches vertex edge = (edge.a == vertex) || (edge.b == vertex)

-- the end of an edge that isn't this vertex
abbrev pub other_end : ℕ → Edge → ℕ
other_end vertex edge = if edge.a == vertex then edge.b else edge.a

-- an edge put into a list that ascends by the other ends
abbrev pub insert_up : ℕ → Edge → List Edge → List Edge
insert_up vertex edge [] = edge ∷ []
insert_up vertex edge (next ∷ edges) =
    if nat_lt (other_end vertex next) (other_end vertex edge) then next ∷ insert_up vertex edge edges
    else edge ∷ next ∷ edges

abbrev pub sorted_up : ℕ → List Edge → List Edge
sorted_up vertex [] = []
sorted_up vertex (edge ∷ edges) = insert_up vertex edge (sorted_up vertex edges)

-- the edges at a vertex, by ascending number of the neighbour
abbrev pub edges_at : Graph → ℕ → List Edge
edges_at graph vertex = sorted_up vertex (filter (touches vertex) graph.edges)

-- the neighbours of a vertex, ascending
abbrev pub neighbours : Graph → ℕ → List ℕ
neighbours graph vertex = map (other_end vertex) (edges_at graph vertex)
