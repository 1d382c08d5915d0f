-- The least number of steps aside of a bond gives the smallest ring through it.
use Rattle.std.proofs.Common.{◌≡◌, ◌≢◌, ◌<◌, ◌≤◌, ◌+◌, ◌-◌, ℕ, true, false, ◌==◌, List, [], ◌∷◌, length, get_or, sym, ap, ◌∙◌, subst, arith, inl, inr, map, eqb-true}
use Rattle.std.specs.Prelude.{eqb}
use Rattle.std.specs.List.{AllByRecursion, IsDistinct}
use Rattle.std.proofs.lemmas.Bool.{cases_lt, or_cases}
use Rattle.std.proofs.lemmas.Bool.Decides.{Decides-eqb}
use Rattle.std.proofs.lemmas.Map.Made.{IsDistinct-from_AllPairs}
use Rattle.std.proofs.lemmas.Map.Steps.{length-le_from_distinct_below}
use Rattle.cip_digraph.specs.rings.Alternating.{is_in}
use Rattle.cip_digraph.specs.graph.Graph.{Graph, edges_at, other_end}
use Rattle.cip_digraph.specs.rings.RingsThrough.{IsRingThrough, Walks}
use Rattle.cip_digraph.specs.rings.SmallRings.{neighbours_aside}
use Rattle.cip_digraph.specs.graph.SoundGraphs.{IsSound, JoinsBelow}
use Rattle.cip_digraph.specs.declared.drawing.graph.Edge.{Edge}
use Rattle.cip_digraph.proofs.lemmas.tree.Ended.{leads_below, member_below}
use Rattle.cip_digraph.proofs.lemmas.ways.Reached.{ring_finds, ring_found}
use Rattle.cip_ring.specs.Neighbours.{IsLeast, IsOutside, within}
use Rattle.cip_ring.specs.Rings.{edge_at, IsInNoRing, IsSmallestRing}
use Rattle.cip_ring.proofs.lemmas.Further.{within_aside}

module _ (graph : Graph) (edge : Edge) (differ : edge.a ≢ edge.b) where
  abbrev step : ℕ → List ℕ
  step = neighbours_aside graph edge.a edge.b

  no_fewer : (steps : ℕ) → is_in edge.b (within step edge.a steps) ≡ false → (others : List ℕ)
      → IsRingThrough graph edge.a edge.b others → length others ≤ steps → ⊥
  no_fewer steps out others ring few =
      let found = ring_finds graph edge.a edge.b steps (others, (ring, few)) in
      let bad : true ≡ false = sym found ∙ ap (is_in edge.b) (sym (within_aside graph edge.a edge.b steps)) ∙ out in
      no bad
    where
      no : true ≡ false → ⊥
      no h = cc

  pub smallest_is : (most steps : ℕ) → IsLeast step edge.a edge.b most steps → IsSmallestRing graph edge (steps + 1)
  smallest_is most steps least =
      let f = ring_found graph edge.a edge.b steps differ
      (ap (is_in edge.b) (sym (within_aside graph edge.a edge.b steps)) ∙ least.reached) in
      record {
        there = (f.0, (f.1.0, exact (f.0) f.1.0 f.1.1));
        least = λ others ring. at_least others ring;
      }
    where
      at_least : (others : List ℕ) → IsRingThrough graph edge.a edge.b others → steps + 1 ≤ length others + 1
      at_least others ring = elim (cases_lt (length others) steps) [
        | inl lt ↦ absurd (no_fewer (length others) (least.before (length others) lt) others ring (omega arith))
        | inr le ↦ omega (arith, le)
      ]

      exact : (others : List ℕ) → IsRingThrough graph edge.a edge.b others → length others ≤ steps
          → length others + 1 ≡ steps + 1
      exact others ring few = let more = at_least others ring in omega (arith, few, more)

in_mapped : (W : ℕ → Type 0) (f : Edge → ℕ) (edges : List Edge) (n : ℕ) → AllByRecursion (λ edge. W (f edge)) edges
    → is_in n (map f edges) ≡ true → W n
in_mapped W f [] n all e = let bad : false ≡ true = e in cc
in_mapped W f (edge ∷ edges) n all e =
    elim (or_cases (f edge == n) (is_in n (map f edges)) e) [
      | inl here ↦ subst W (eqb-true (f edge) n here) all.0
      | inr later ↦ in_mapped W f edges n all.1 later
    ]

walk_below : (graph : Graph) → IsSound graph → (at : ℕ) (others : List ℕ) (target : ℕ) → Walks graph at others target
    → at < length graph.vertices
    → AllByRecursion (λ vertex. vertex < length graph.vertices) others
walk_below graph sound at [] target way lt = tt
walk_below graph sound at (next ∷ others) target way lt =
    let below = in_mapped (λ vertex. vertex < length graph.vertices) (other_end at) (edges_at graph at) next
    (leads_below graph sound at lt) way.0 in
    (below, walk_below graph sound next others target way.1 below)

-- a ring meets no more vertices than there are
pub ring_short : (graph : Graph) → IsSound graph → (a b : ℕ) → a < length graph.vertices → (others : List ℕ)
    → IsRingThrough graph a b others → length (a ∷ others) ≤ length graph.vertices
ring_short graph sound a b lt others ring =
    let count = length graph.vertices in
    let all : AllByRecursion (λ vertex. vertex < count) (a ∷ others) =
    (lt, walk_below graph sound a others b ring.way lt) in
    let once : IsDistinct eqb (a ∷ others) =
    IsDistinct-from_AllPairs Decides-eqb (a ∷ others) ring.different in
    length-le_from_distinct_below (a ∷ others) count once (member_below count (a ∷ others) all)

pub none_is : (graph : Graph) (edge : Edge) (most : ℕ) → IsSound graph → JoinsBelow (length graph.vertices) edge
    → length graph.vertices ≤ most + 1
    → IsOutside (neighbours_aside graph edge.a edge.b) edge.a edge.b most → IsInNoRing graph edge
none_is graph edge most sound joins far out = record {
  none = λ others ring.
      let count = length graph.vertices in
      let all : AllByRecursion (λ vertex. vertex < count) (edge.a ∷ others) =
      (joins.a, walk_below graph sound edge.a others edge.b ring.way joins.a) in
      let once : IsDistinct eqb (edge.a ∷ others) =
      IsDistinct-from_AllPairs Decides-eqb (edge.a ∷ others) ring.different in
      let few : length (edge.a ∷ others) ≤ count =
      length-le_from_distinct_below (edge.a ∷ others) count once (member_below count (edge.a ∷ others) all) in
      no_fewer graph edge joins.differ (length others) (out.each (length others) (omega (arith, few, far))) others ring
      (omega arith);
}

-- of an edge that was read from the list
abbrev no_edge : Edge
no_edge = record { a = 0; b = 0; order = 0; counted = false }

module _ (graph : Graph) (sound : IsSound graph) (items : List Edge) (number : ℕ) (same : items ≡ graph.edges)
    (lt : number < length graph.edges) where
  abbrev edge : Edge
  edge = get_or items number no_edge

  abbrev most : ℕ
  most = length graph.vertices - 1

  joins : JoinsBelow (length graph.vertices) edge
  joins =
      subst (λ edges. JoinsBelow (length graph.vertices) (get_or edges number no_edge)) (sym same)
      (sound.edges number no_edge lt)

  pub told_some : (steps : ℕ) → IsLeast (neighbours_aside graph edge.a edge.b) edge.a edge.b most steps
      → IsSmallestRing graph (edge_at graph number) (steps + 1)
  told_some steps least =
      subst (λ edges. IsSmallestRing graph (get_or edges number no_edge) (steps + 1)) same
      (smallest_is graph edge joins.differ most steps least)

  pub told_none : IsOutside (neighbours_aside graph edge.a edge.b) edge.a edge.b most
      → IsInNoRing graph (edge_at graph number)
  told_none out =
      subst (λ edges. IsInNoRing graph (get_or edges number no_edge)) same
      (none_is graph edge most sound joins (omega arith) out)
