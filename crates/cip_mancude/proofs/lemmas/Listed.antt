-- The lists of positions: an edge or a vertex more, and that they ascend and are short.
use Rattle.std.proofs.Common.{◌≡◌, ◌<◌, ◌≤◌, ◌+◌, ◌-◌, ℕ, zero, suc, Bool, true, false, cond, ◌==◌, ◌||◌, Some, None, List, [], ◌∷◌, ◌++◌, append_assoc, length, length-append, map, replicate, set, take, get_or, refl, sym, ap, ◌∙◌, arith}
use Rattle.std.specs.Prelude.{filter}
use Rattle.std.specs.declared.option.Option.{Option}
use Rattle.std.specs.List.{list_any, range_with_len}
use Rattle.std.proofs.lemmas.Bool.{and_parts, and_right, leb-true, or_from, or_parts}
use Rattle.std.proofs.lemmas.List.{append-nil, get_or_append_left, get_or_at, length-map, map_more, set_at, take_all}
use Rattle.std.proofs.lemmas.List.Elements.{filter-append}
use Rattle.std.proofs.lemmas.List.FromFn.{get_or-map-range_with_len, length-map-range_with_len, map-range_with_len_more}
use Rattle.std.proofs.lemmas.List.Sums.{count_by-le-length, length-filter}
use Rattle.cip_digraph.specs.rings.Alternating.{closes_ring, counted_at, is_alternating, is_one_double, partner}
use Rattle.cip_digraph.specs.graph.Graph.{Graph, edges_at, neighbours, other_end, touches}
use Rattle.cip_digraph.specs.rings.PositionLists.{IsPositionList}
use Rattle.cip_digraph.specs.rings.Positions.{listed_positions, positions_at, positions_of}
use Rattle.cip_digraph.specs.graph.SoundGraphs.{IsSound}
use Rattle.cip_digraph.specs.declared.drawing.graph.Edge.{Edge}
use Rattle.cip_digraph.proofs.lemmas.lists.Positions.{none_listed}
use Rattle.cip_digraph.proofs.lemmas.lists.Elements.{pairs_from_pairwise, pairwise_filtered}
use Rattle.cip_digraph.proofs.lemmas.bonds.Neighbours.{neighbours_ascend}
use Rattle.cip_mancude.specs.Partners.{alternating_partner, AreListedBelow, counts_at, positions_along}
use Rattle.cip_mancude.proofs.lemmas.Noted.{no_partner}

abbrev is_position : Graph → ℕ → ℕ → Bool
is_position graph vertex other = (other == partner graph vertex) || closes_ring graph vertex other

pub along_next : (graph : Graph) (vertex : ℕ) (items edges : List Edge) (k : ℕ) (d : Edge) (other : ℕ) (found : Bool)
    (positions more : List ℕ)
    → items ≡ edges → k < length items
    → positions ≡ positions_along graph vertex (take k edges) → other ≡ other_end vertex (get_or items k d)
    → found ≡ is_position graph vertex other
    → more ≡ positions ++ cond found (other ∷ []) []
    → more ≡ positions_along graph vertex (take (k + 1) edges)
along_next graph vertex items edges k d other found positions more same lt before at is e =
    let test = is_position graph vertex in
    let there : other ≡ other_end vertex (get_or edges k d) = at ∙ ap (λ es. other_end vertex (get_or es k d)) same in
    let within : k < length edges = rw (← same) lt in
    let here : found ≡ test (other_end vertex (get_or edges k d)) = is ∙ ap test there in
    rw (
      e,
      before,
      here,
      there,
      map_more (other_end vertex) edges k d within,
      filter-append test (map (other_end vertex) (take k edges)) (other_end vertex (get_or edges k d) ∷ []),
    ) refl

-- all edges are looked at
pub along_all : (graph : Graph) (vertex other k : ℕ) (items : List Edge) (positions : List ℕ)
    → ◌≡◌ {A = Option ℕ} (alternating_partner graph vertex) (Some other) → items ≡ edges_at graph vertex
    → length items ≤ k → positions ≡ positions_along graph vertex (take k (edges_at graph vertex))
    → positions ≡ positions_at graph vertex
along_all graph vertex other k items positions some same past is =
    let far : length (edges_at graph vertex) ≤ k = rw (← same) past in
    is ∙ ap (positions_along graph vertex) (take_all k (edges_at graph vertex) far)
    ∙ ap (λ b. cond b (filter (is_position graph vertex) (neighbours graph vertex)) [])
    (sym (alternates_by (is_alternating graph vertex) some))
  where
    alternates_by : (b : Bool) → ◌≡◌ {A = Option ℕ} (cond b (Some (partner graph vertex)) None) (Some other)
        → b ≡ true
    alternates_by true e = refl
    alternates_by false e = cc

pub none_at : (graph : Graph) (vertex : ℕ) → ◌≡◌ {A = Option ℕ} (alternating_partner graph vertex) None
    → positions_at graph vertex ≡ []
none_at graph vertex e =
    ap (λ b. cond b (filter (is_position graph vertex) (neighbours graph vertex)) [])
    (rests_by (is_alternating graph vertex) e)
  where
    rests_by : (b : Bool) → ◌≡◌ {A = Option ℕ} (cond b (Some (partner graph vertex)) None) None → b ≡ false
    rests_by true e = cc
    rests_by false e = refl

-- no vertex has any where no edge is counted

none_counted : (vertex : ℕ) (edges : List Edge) → list_any (λ edge. edge.counted) edges ≡ false
    → list_any (counts_at vertex) edges ≡ false
none_counted vertex [] e = refl
none_counted vertex (edge ∷ edges) e =
    let p = or_parts edge.counted (list_any (λ other. other.counted) edges) e in
    or_from (counts_at vertex edge) (list_any (counts_at vertex) edges)
    (and_right (touches vertex edge) edge.counted p.0) (none_counted vertex edges p.1)

none_from : (graph : Graph) → list_any (λ edge. edge.counted) graph.edges ≡ false → (from count : ℕ)
    → map (positions_at graph) (range_with_len from count) ≡ replicate count []
none_from graph e from zero = refl
none_from graph e from (suc count) =
    let here = none_at graph from (no_partner graph from (none_counted from graph.edges e)) in
    rw (here, none_from graph e (from + 1) count) refl

pub all_none : (graph : Graph) → list_any (λ edge. edge.counted) graph.edges ≡ false
    → positions_of graph ≡ replicate (length graph.vertices) []
unfolding positions_of
all_none graph e = none_from graph e 0 (length graph.vertices)

-- the lists of the vertices below one, and none after them
abbrev pub listed_below : Graph → ℕ → ℕ → List (List ℕ)
listed_below graph vertex more = map (positions_at graph) (range_with_len 0 vertex) ++ replicate more []

module _ (graph : Graph) (vertex count : ℕ) (lists : List (List ℕ))
    (before : lists ≡ listed_below graph vertex (count - vertex)) where
  abbrev done : List (List ℕ)
  done = map (positions_at graph) (range_with_len 0 vertex)

  abbrev more : ℕ
  more = count - (vertex + 1)

  long : length done ≡ vertex
  long = length-map-range_with_len (positions_at graph) 0 vertex

  next_is : vertex < count → lists ≡ done ++ [] ∷ replicate more []
  next_is lt =
      let same : count - vertex ≡ suc more = omega (arith, lt) in
      before ∙ ap (λ n. done ++ replicate n []) same

  pub next_within : vertex < count → vertex < length lists
  next_within lt =
      let all = ap length (next_is lt) ∙ length-append done ([] ∷ replicate more []) in
      omega (arith, all, long)

  pub none_yet : vertex < count → listed_positions lists vertex ≡ []
  none_yet lt =
      ap (λ ls. get_or ls vertex []) (next_is lt) ∙ get_or_at done [] (replicate more []) [] vertex long

  pub all_below : vertex ≤ count → AreListedBelow graph vertex lists
  all_below le = record {
    each = λ other lt.
        ap (λ ls. get_or ls other []) before
        ∙ get_or_append_left done (replicate (count - vertex) []) [] other (omega (arith, lt, long))
        ∙ get_or-map-range_with_len (positions_at graph) 0 vertex other other [] lt (omega arith);
  }

  pub listed_next : (now : List (List ℕ)) → vertex < count → now ≡ set lists vertex (positions_at graph vertex)
      → now ≡ listed_below graph (vertex + 1) (count - (vertex + 1))
  listed_next now lt is =
      is ∙ ap (λ ls. set ls vertex (positions_at graph vertex)) (next_is lt)
      ∙ set_at done [] (replicate more []) (positions_at graph vertex) vertex long
      ∙ sym (append_assoc done (positions_at graph vertex ∷ []) (replicate more []))
      ∙ ap (λ ls. ls ++ replicate more [])
      (sym (map-range_with_len_more (positions_at graph) 0 vertex vertex (omega arith)))

  pub all_listed : count ≡ length graph.vertices → vertex ≡ count → lists ≡ positions_of graph
  unfolding positions_of
  all_listed all last =
      let none : count - vertex ≡ 0 = omega (arith, last) in
      before ∙ ap (λ n. done ++ replicate n []) none ∙ append-nil done
      ∙ ap (λ n. map (positions_at graph) (range_with_len 0 n)) (last ∙ all)

listed_by : (graph : Graph) (vertex : ℕ) (b : Bool) → is_alternating graph vertex ≡ b → IsSound graph
    → IsPositionList (cond b (filter (is_position graph vertex) (neighbours graph vertex)) [])
listed_by graph vertex false e sound = none_listed
listed_by graph vertex true e sound =
    let test = is_position graph vertex in
    let short = leb-true (length (edges_at graph vertex)) 3
    (and_parts (is_one_double (counted_at graph vertex)) _ e).1 in
    let fewer = count_by-le-length test (neighbours graph vertex) in
    let counted = length-filter test (neighbours graph vertex) in
    let all = length-map (edges_at graph vertex) (other_end vertex) in
    record {
      ascending = pairs_from_pairwise ◌<◌ (filter test (neighbours graph vertex))
          (pairwise_filtered ◌<◌ test (neighbours graph vertex) (neighbours_ascend graph sound vertex));
      few = omega (arith, short, fewer, counted, all);
    }

pub are_positions : (graph : Graph) (vertex : ℕ) → IsSound graph → IsPositionList (positions_at graph vertex)
are_positions graph vertex sound = listed_by graph vertex (is_alternating graph vertex) refl sound
