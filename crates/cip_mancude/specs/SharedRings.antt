-- Atoms that share an alternating ring, whether or not the bond between them lies in it. IUPAC 2013, P-92.1.4 for
-- alternating rings; own.
use Rattle.std.specs.Prelude.{◌≡◌, ℕ, zero, suc, Bool, true, false, cond, not, ◌==◌, ◌&&◌, ◌||◌, List, [], ◌∷◌, filter, map}
use Rattle.std.specs.List.{list_any}
use Rattle.cip_digraph.specs.declared.drawing.graph.Edge.{Edge}
use Rattle.cip_digraph.specs.graph.Graph.{Graph, other_end}
use Rattle.cip_digraph.specs.graph.SoundGraphs.{IsSound}
use Rattle.cip_digraph.specs.rings.Alternating.{is_in, is_alternating, partner, singles, goes_on}
use Rattle.cip_digraph.specs.rings.AlternatingRings.{IsAlternatingRing, ring_of}

-- From an atom, by turns over a single bond and over the double bond after it, a target is reached as alternating
-- rings reach it, on a way that meets a third atom.
abbrev pub reaches_by : Graph → ℕ → ℕ → ℕ → List ℕ → ℕ → Bool
reaches_by graph third target zero path at = (at == target) && is_in third path
reaches_by graph third target (suc more) path at =
    ((at == target) && is_in third path)
    || list_any
    (λ next. let other = partner graph next in
    cond (goes_on graph path next) (reaches_by graph third target more (other ∷ next ∷ path) other) false)
    (singles graph at)

-- an alternating ring of an atom, along a single bond to another one and over n further double bonds, meets a third
abbrev pub ring_meets : Graph → ℕ → ℕ → ℕ → ℕ → Bool
ring_meets graph most third vertex other =
    let next = partner graph vertex in
    is_alternating graph other && not (other == next) && reaches_by graph third other most (next ∷ vertex ∷ []) next

-- an alternating ring holds both atoms
unfoldable pub share_alternating_ring : Graph → ℕ → ℕ → Bool
share_alternating_ring graph vertex third =
    is_alternating graph vertex && is_alternating graph (partner graph vertex)
    && list_any (ring_meets graph 11 third vertex) (singles graph vertex)

-- a ring as such that holds both
pub record ShareRing (graph : Graph) (vertex third : ℕ) : Type 0 where
  pub other : ℕ
  pub nexts : List ℕ
  pub ring : IsAlternatingRing graph vertex other nexts
  pub holds : is_in third (ring_of graph vertex nexts) ≡ true

-- two atoms share a ring exactly where the search finds one
pub record FindsShared (graph : Graph) (vertex third : ℕ) : Type 0 where
  pub found : share_alternating_ring graph vertex third ≡ true → ShareRing graph vertex third
  pub finds : ShareRing graph vertex third → share_alternating_ring graph vertex third ≡ true

abbrev pub SharedRingsAreFound : Type 0
SharedRingsAreFound = (graph : Graph) → IsSound graph → (vertex third : ℕ) → FindsShared graph vertex third

-- a step of the search

abbrev pub passes_through : Graph → ℕ → ℕ → ℕ → List ℕ → ℕ → Bool
passes_through graph third target more path next =
    let other = partner graph next in
    cond (goes_on graph path next) (reaches_by graph third target more (other ∷ next ∷ path) other) false

abbrev pub passes_along : Graph → ℕ → ℕ → ℕ → List ℕ → ℕ → List Edge → Bool
passes_along graph third target more path at edges =
    list_any (passes_through graph third target more path) (map (other_end at) (filter (λ edge. edge.order == 1) edges))

abbrev pub ring_along : Graph → ℕ → ℕ → ℕ → List Edge → Bool
ring_along graph most third vertex edges =
    list_any (ring_meets graph most third vertex) (map (other_end vertex) (filter (λ edge. edge.order == 1) edges))
