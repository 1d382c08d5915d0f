-- The other ends of the double bonds of alternating atoms, and how a search goes on through them. Own.
use Rattle.std.specs.Prelude.{◌≡◌, ◌<◌, ℕ, Bool, false, cond, List, [], ◌∷◌, Some, None, filter, length, map, not, slice_index_or, slice_set, ◌==◌, ◌||◌, ◌&&◌}
use Rattle.std.specs.List.{list_any}
use Rattle.std.specs.declared.option.Option.{Option}
use Rattle.cip_digraph.specs.declared.drawing.graph.Edge.{Edge}
use Rattle.cip_digraph.specs.rings.Alternating.{closes_ring, goes_on, is_alternating, is_in, partner, reaches, singles}
use Rattle.cip_digraph.specs.rings.Positions.{listed_positions, positions_at}
use Rattle.cip_digraph.specs.graph.Graph.{Graph, other_end, touches}

abbrev pub alternating_partner : Graph → ℕ → Option ℕ
alternating_partner graph vertex = cond (is_alternating graph vertex) (Some (partner graph vertex)) None

-- the partners of the first vertices of a graph
pub record ArePartners (graph : Graph) (partners : List (Option ℕ)) : Type 0 where
  pub each : (vertex : ℕ) → vertex < length partners → (d : Option ℕ)
      → slice_index_or partners vertex d ≡ alternating_partner graph vertex

-- an end of an edge that is counted
abbrev pub counts_at : ℕ → Edge → Bool
counts_at vertex edge = touches vertex edge && edge.counted

-- at each vertex of a graph, its partner where one of some edges is counted there
pub record ArePartnersBy (graph : Graph) (edges : List Edge) (partners : List (Option ℕ)) : Type 0 where
  pub len : length partners ≡ length graph.vertices
  pub each : (vertex : ℕ) → vertex < length graph.vertices → (d : Option ℕ)
      → slice_index_or partners vertex d
      ≡ cond (list_any (counts_at vertex) edges) (alternating_partner graph vertex) None

abbrev pub with_partner : Graph → ℕ → List (Option ℕ) → List (Option ℕ)
with_partner graph vertex partners = slice_set partners vertex (alternating_partner graph vertex)

-- those of both ends of an edge, where it is counted
abbrev pub with_partners : Graph → Edge → List (Option ℕ) → List (Option ℕ)
with_partners graph edge partners =
    cond edge.counted (with_partner graph edge.b (with_partner graph edge.a partners)) partners

abbrev pub sole : List Edge → Option Edge
sole [] = None
sole (edge ∷ []) = Some edge
sole (edge ∷ next ∷ edges) = None

abbrev pub sole_counted : List Edge → Option Edge
sole_counted edges = sole (filter (λ edge. edge.counted) edges)

-- whether a single bond joins two atoms that alternate, as the partner of the one does
abbrev pub can_close : Graph → ℕ → ℕ → Bool
can_close graph vertex other =
    let next = partner graph vertex in
    is_alternating graph vertex && is_alternating graph next && is_alternating graph other
    && is_in other (singles graph vertex) && not (other == next)

-- whether a search goes on through an atom and its partner and reaches the target
abbrev pub goes_through : Graph → ℕ → ℕ → List ℕ → ℕ → Bool
goes_through graph target more path next =
    let other = partner graph next in
    cond (goes_on graph path next) (reaches graph target more (other ∷ next ∷ path) other) false

-- the neighbours along some edges at an alternating atom that are positions of its double bond
abbrev pub positions_along : Graph → ℕ → List Edge → List ℕ
positions_along graph vertex edges =
    filter (λ other. (other == partner graph vertex) || closes_ring graph vertex other) (map (other_end vertex) edges)

-- the positions of all lower vertices are listed
pub record AreListedBelow (graph : Graph) (vertex : ℕ) (positions : List (List ℕ)) : Type 0 where
  pub each : (other : ℕ) → other < vertex → listed_positions positions other ≡ positions_at graph other
