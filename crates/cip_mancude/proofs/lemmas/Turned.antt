-- An alternating ring is found through a single bond from either of its ends: it can be gone round the other way.
use Rattle.std.proofs.Common.{◌≡◌, ◌≢◌, ◌<◌, ℕ, Bool, true, false, cond, ◌==◌, ◌&&◌, ◌||◌, Some, None, List, [], ◌∷◌}
use Rattle.std.proofs.Common.{◌++◌, eqb-true, eq-eqb, get_or, length, map, refl, sym, ap, ◌∙◌, subst, arith}
use Rattle.std.specs.Prelude.{filter, nat_le}
use Rattle.std.specs.declared.option.Option.{Option}
use Rattle.std.specs.List.{AllByRecursion, list_any}
use Rattle.std.proofs.lemmas.Bool.{and_parts, eqb-false, false_from_ne_true}
use Rattle.std.proofs.lemmas.Bool.Decides.{nat_tests}
use Rattle.std.proofs.lemmas.List.{append-nil}
use Rattle.std.proofs.lemmas.List.Folds.{list_any_at}
use Rattle.std.proofs.lemmas.List.Elements.{All-from_recursion}
use Rattle.std.proofs.Math.Bool.{or-false, and-false}
use Rattle.cip_digraph.specs.declared.drawing.graph.Edge.{Edge}
use Rattle.cip_digraph.specs.graph.Graph.{Graph, edges_at, neighbours, other_end, touches}
use Rattle.cip_digraph.specs.graph.SoundGraphs.{IsSound, JoinsBelow}
use Rattle.cip_digraph.specs.rings.Alternating.{closes_ring, counted_at, is_alternating, is_in, is_one_double, partner, partner_by, singles}
use Rattle.cip_digraph.specs.rings.AlternatingRings.{Alternates, met, ring_of}
use Rattle.cip_digraph.specs.rings.Positions.{listed_positions, positions_at}
use Rattle.cip_digraph.proofs.lemmas.ways.Alternating.{ring_found, ring_finds}
use Rattle.cip_digraph.proofs.lemmas.lists.Elements.{Pairwise, all_by, by_recursion, pairs_from_pairwise, pairwise_from_pairs}
use Rattle.cip_digraph.proofs.lemmas.bonds.Tests.{any_filtered, any_sorted}
use Rattle.cip_mancude.specs.Partners.{alternating_partner, AreListedBelow}
use Rattle.cip_mancude.proofs.lemmas.Searched.{partner_of}
use Rattle.cip_mol.proofs.lemmas.ReflectedDrawing.{list_any-map}

-- whether some edge at a vertex leads to another is known from the edges of the graph

any_alike : (one other : Edge → Bool) (edges : List Edge) → AllByRecursion (λ edge. one edge ≡ other edge) edges
    → list_any one edges ≡ list_any other edges
any_alike one other [] all = refl
any_alike one other (edge ∷ edges) all = rw (all.0, any_alike one other edges all.1) refl

joins_both : (vertex other : ℕ) (edge : Edge) → edge.a ≢ edge.b
    → (touches vertex edge && (other_end vertex edge == other)) ≡ (touches other edge && (other_end other edge == vertex))
joins_both vertex other edge differ = grind (arith, nat_tests)

from_both : (vertex other : ℕ) (edge : Edge) (kept : Bool) → edge.a ≢ edge.b
    → (touches vertex edge && (kept && (other_end vertex edge == other)))
    ≡ (touches other edge && (kept && (other_end other edge == vertex)))
from_both vertex other edge true differ = joins_both vertex other edge differ
from_both vertex other edge false differ =
    and-false (touches vertex edge) ∙ sym (and-false (touches other edge))

-- what the only edge of a list leads to
sole_leads : (vertex n : ℕ) (edges : List Edge) → is_one_double edges ≡ true
    → list_any (λ edge. other_end vertex edge == n) edges ≡ (partner_by vertex edges == n)
sole_leads vertex n [] e = let bad : false ≡ true = e in cc
sole_leads vertex n (edge ∷ []) e = or-false (other_end vertex edge == n)
sole_leads vertex n (edge ∷ next ∷ edges) e = let bad : false ≡ true = e in cc

-- an atom put after others
all_in : (P : ℕ → Type 0) (x : ℕ) (front back : List ℕ) → P x → AllByRecursion P (front ++ back)
    → AllByRecursion P (front ++ x ∷ back)
all_in P x [] back p all = (p, all)
all_in P x (y ∷ front) back p all = (all.0, all_in P x front back p all.1)

different_in : (x : ℕ) (front back : List ℕ) → AllByRecursion (λ y. x ≢ y) (front ++ back)
    → Pairwise ◌≢◌ (front ++ back) → Pairwise ◌≢◌ (front ++ x ∷ back)
different_in x [] back all pairs = (all, pairs)
different_in x (y ∷ front) back all pairs = (
  all_in (λ z. y ≢ z) x front back (λ same. all.0 (sym same)) pairs.0,
  different_in x front back all.1 pairs.1,
)

long_in : (x : ℕ) (front back : List ℕ) → length (front ++ x ∷ back) ≡ length (x ∷ (front ++ back))
long_in x [] back = refl
long_in x (y ∷ front) back = let rest = long_in x front back in omega (arith, rest)

module _ (graph : Graph) (sound : IsSound graph) where
  leads_by : (kept : Edge → Bool) (vertex n : ℕ)
      → list_any (λ edge. other_end vertex edge == n) (filter kept (edges_at graph vertex))
      ≡ list_any (λ edge. touches vertex edge && (kept edge && (other_end vertex edge == n))) graph.edges
  leads_by kept vertex n =
      any_filtered (λ edge. other_end vertex edge == n) kept (edges_at graph vertex)
      ∙ any_sorted (λ edge. kept edge && (other_end vertex edge == n)) vertex (filter (touches vertex) graph.edges)
      ∙ any_filtered (λ edge. kept edge && (other_end vertex edge == n)) (touches vertex) graph.edges

  pub leads_either : (kept : Edge → Bool) (vertex other : ℕ)
      → list_any (λ edge. other_end vertex edge == other) (filter kept (edges_at graph vertex))
      ≡ list_any (λ edge. other_end other edge == vertex) (filter kept (edges_at graph other))
  leads_either kept vertex other =
      leads_by kept vertex other
      ∙ any_alike (λ edge. touches vertex edge && (kept edge && (other_end vertex edge == other)))
      (λ edge. touches other edge && (kept edge && (other_end other edge == vertex))) graph.edges
      (all_by (JoinsBelow (length graph.vertices)) _
      (λ edge joins. from_both vertex other edge (kept edge) joins.differ) graph.edges
      (by_recursion (JoinsBelow (length graph.vertices)) graph.edges sound.edges))
      ∙ sym (leads_by kept other vertex)

  pub single_back : (vertex other : ℕ) → is_in other (singles graph vertex) ≡ true → is_in vertex (singles graph other) ≡ true
  single_back vertex other e =
      list_any-map (λ o. o == vertex) (other_end other) (filter (λ edge. edge.order == 1) (edges_at graph other))
      ∙ leads_either (λ edge. edge.order == 1) other vertex
      ∙ sym (list_any-map (λ o. o == other) (other_end vertex) (filter (λ edge. edge.order == 1) (edges_at graph vertex)))
      ∙ e

  partner_leads : (vertex n : ℕ) → is_alternating graph vertex ≡ true
      → list_any (λ edge. other_end vertex edge == n) (counted_at graph vertex) ≡ (partner graph vertex == n)
  partner_leads vertex n e =
      sole_leads vertex n (counted_at graph vertex)
      (and_parts (is_one_double (counted_at graph vertex)) (nat_le (length (edges_at graph vertex)) 3) e).0

  pub partner_back : (vertex : ℕ) → is_alternating graph vertex ≡ true
      → is_alternating graph (partner graph vertex) ≡ true → partner graph (partner graph vertex) ≡ vertex
  partner_back vertex e f =
      let other = partner graph vertex in
      let here : (partner graph vertex == other) ≡ true = eq-eqb other other refl in
      eqb-true (partner graph other) vertex
      (sym (partner_leads other vertex f) ∙ leads_either (λ edge. edge.counted) other vertex
      ∙ partner_leads vertex other e ∙ here)

  abbrev IsAlternatingAtom : ℕ → Type 0
  IsAlternatingAtom atom = is_alternating graph atom ≡ true

  -- the way gone back
  abbrev turned : ℕ → List ℕ → List ℕ → List ℕ
  turned at [] after = after
  turned at (next ∷ others) after = turned (partner graph next) others (at ∷ after)

  turned_way : (at : ℕ) (nexts after : List ℕ) (first last : ℕ) → Alternates graph at nexts last
      → AllByRecursion IsAlternatingAtom (met graph nexts) → Alternates graph (partner graph at) after first
      → Alternates graph (partner graph last) (turned at nexts after) first
  turned_way at [] after first last way all behind =
      subst (λ atom. Alternates graph (partner graph atom) after first) way behind
  turned_way at (next ∷ others) after first last way all behind =
      turned_way (partner graph next) others (at ∷ after) first last way.1 all.1.1
      (subst (λ atom. Alternates graph atom (at ∷ after) first) (sym (partner_back next all.0 all.1.0))
      (single_back at next way.0, behind))

  -- what the atoms of a ring are
  record AreRound (atoms : List ℕ) (count : ℕ) : Type 0 where
    alternating : AllByRecursion IsAlternatingAtom atoms
    different : Pairwise ◌≢◌ atoms
    long : length atoms ≡ count

  round_in : (x : ℕ) (front back : List ℕ) (count : ℕ) → AreRound (x ∷ (front ++ back)) count
      → AreRound (front ++ x ∷ back) count
  round_in x front back count round = record {
    alternating = all_in IsAlternatingAtom x front back round.alternating.0 round.alternating.1;
    different = different_in x front back round.different.0 round.different.1;
    long = long_in x front back ∙ round.long;
  }

  turned_round : (at : ℕ) (nexts after : List ℕ) (last count : ℕ) → Alternates graph at nexts last
      → AllByRecursion IsAlternatingAtom (met graph nexts)
      → AreRound (partner graph at ∷ at ∷ (met graph nexts ++ met graph after)) count
      → AreRound (last ∷ partner graph last ∷ met graph (turned at nexts after)) count
  turned_round at [] after last count way all round =
      subst (λ atom. AreRound (atom ∷ partner graph atom ∷ met graph after) count) way
      (round_in (partner graph at) (at ∷ []) (met graph after) count round)
  turned_round at (next ∷ others) after last count way all round =
      let front = next ∷ partner graph next ∷ met graph others in
      let back = met graph after in
      turned_round (partner graph next) others (at ∷ after) last count way.1 all.1.1
      (subst
      (λ atom. AreRound (atom ∷ partner graph next ∷ (met graph others ++ met graph (at ∷ after))) count)
      (sym (partner_back next all.0 all.1.0))
      (round_in at front (partner graph at ∷ back) count
      (round_in (partner graph at) (at ∷ front) back count round)))

  closes_back : (vertex other : ℕ) → closes_ring graph vertex other ≡ true → closes_ring graph other vertex ≡ true
  closes_back vertex other e =
      let found = ring_found graph sound vertex other e in
      let nexts = found.0 in
      let ring = found.1 in
      let next = partner graph vertex in
      let all : AllByRecursion IsAlternatingAtom (ring_of graph vertex nexts) =
      by_recursion IsAlternatingAtom (ring_of graph vertex nexts) ring.alternating in
      let back : partner graph next ≡ vertex = partner_back vertex all.0 all.1.0 in
      let begun : AreRound (vertex ∷ next ∷ met graph nexts) (length (ring_of graph vertex nexts)) = record {
        alternating = all;
        different = pairwise_from_pairs ◌≢◌ (ring_of graph vertex nexts) ring.different;
        long = refl;
      } in
      let round : AreRound (ring_of graph other (turned next nexts [])) (length (ring_of graph vertex nexts)) =
      turned_round next nexts [] other (length (ring_of graph vertex nexts)) ring.way all.1.1
      (subst (λ atoms. AreRound (partner graph next ∷ next ∷ atoms) (length (ring_of graph vertex nexts)))
      (sym (append-nil (met graph nexts)))
      (subst (λ atom. AreRound (atom ∷ next ∷ met graph nexts) (length (ring_of graph vertex nexts))) (sym back) begun)) in
      let long = round.long in
      let some = ring.some in
      let few = ring.few in
      ring_finds graph sound other vertex (
        turned next nexts [],
        record {
          single = single_back vertex other ring.single;
          way = turned_way next nexts [] vertex other ring.way all.1.1 back;
          alternating =
              All-from_recursion IsAlternatingAtom (ring_of graph other (turned next nexts [])) round.alternating;
          different = pairs_from_pairwise ◌≢◌ (ring_of graph other (turned next nexts [])) round.different;
          some = omega (arith, some, long);
          few = omega (arith, few, long);
        },
      )

  same_truth : (b c : Bool) → (b ≡ true → c ≡ true) → (c ≡ true → b ≡ true) → b ≡ c
  same_truth true c f g = sym (f refl)
  same_truth false true f g = g refl
  same_truth false false f g = refl

  -- a ring is found from either end of a bond
  pub closes_either : (vertex other : ℕ) → closes_ring graph vertex other ≡ closes_ring graph other vertex
  closes_either vertex other =
      same_truth (closes_ring graph vertex other) (closes_ring graph other vertex) (closes_back vertex other)
      (closes_back other vertex)

-- what the positions of one end of a bond say of the other

all_kept : (edges : List Edge) → filter (λ edge. true) edges ≡ edges
all_kept [] = refl
all_kept (edge ∷ edges) = ap (λ es. edge ∷ es) (all_kept edges)

in_filter : (test : ℕ → Bool) (n : ℕ) (ns : List ℕ) → is_in n (filter test ns) ≡ (is_in n ns && test n)
in_filter test n [] = refl
in_filter test n (m ∷ ms) = by (test m) refl (m == n) refl (in_filter test n ms)
  where
    same : (m == n) ≡ true → (b : Bool) → test m ≡ b → test n ≡ b
    same e b f = ap test (sym (eqb-true m n e)) ∙ f

    by : (b : Bool) → test m ≡ b → (c : Bool) → (m == n) ≡ c → is_in n (filter test ms) ≡ (is_in n ms && test n)
        → is_in n (cond b (m ∷ filter test ms) (filter test ms)) ≡ ((c || is_in n ms) && test n)
    by true f true e rest = ap (λ c. c || is_in n (filter test ms)) e ∙ sym (same e true f)
    by true f false e rest = ap (λ c. c || is_in n (filter test ms)) e ∙ rest
    by false f true e rest = rest ∙ ap (λ c. is_in n ms && c) (same e false f) ∙ and-false (is_in n ms)
        ∙ sym (same e false f)
    by false f false e rest = rest

pub leads_there : (vertex : ℕ) (items edges : List Edge) (k : ℕ) (d : Edge) (other : ℕ) → items ≡ edges
    → k < length items → other ≡ other_end vertex (get_or items k d) → is_in other (map (other_end vertex) edges) ≡ true
leads_there vertex items edges k d other same lt at =
    let within : k < length edges = rw (← same) lt in
    let there : other ≡ other_end vertex (get_or edges k d) = at ∙ ap (λ es. other_end vertex (get_or es k d)) same in
    list_any-map (λ o. o == other) (other_end vertex) edges
    ∙ list_any_at (λ edge. other_end vertex edge == other) edges k d within
    (eq-eqb (other_end vertex (get_or edges k d)) other (sym there))

module _ (graph : Graph) (sound : IsSound graph) (vertex other : ℕ) where
  near_back : is_in other (neighbours graph vertex) ≡ true → is_in vertex (neighbours graph other) ≡ true
  near_back e =
      list_any-map (λ o. o == vertex) (other_end other) (edges_at graph other)
      ∙ ap (list_any (λ edge. other_end other edge == vertex)) (sym (all_kept (edges_at graph other)))
      ∙ leads_either graph sound (λ edge. true) other vertex
      ∙ ap (list_any (λ edge. other_end vertex edge == other)) (all_kept (edges_at graph vertex))
      ∙ sym (list_any-map (λ o. o == other) (other_end vertex) (edges_at graph vertex))
      ∙ e

  abbrev position : ℕ → Bool
  position atom = (atom == partner graph other) || closes_ring graph other atom

  no_partner : is_alternating graph vertex ≡ true → is_alternating graph other ≡ true
      → (other == partner graph vertex) ≡ false → (vertex == partner graph other) ≡ false
  no_partner e f differ = false_from_ne_true (vertex == partner graph other) (λ same.
      let is : vertex ≡ partner graph other = eqb-true vertex (partner graph other) same in
      let back : partner graph vertex ≡ other = ap (partner graph) is
      ∙ partner_back graph sound other f (subst (λ atom. is_alternating graph atom ≡ true) is e) in
      eqb-false other (partner graph vertex) differ (sym back))

  told_by : (b : Bool) → is_alternating graph other ≡ b → is_alternating graph vertex ≡ true
      → is_in other (neighbours graph vertex) ≡ true → (other == partner graph vertex) ≡ false
      → is_in vertex (cond b (filter position (neighbours graph other)) []) ≡ closes_ring graph other vertex
  told_by false f e nearer differ = rw f refl
  told_by true f e nearer differ =
      in_filter position vertex (neighbours graph other)
      ∙ ap (λ b. b && position vertex) (near_back nearer)
      ∙ ap (λ b. b || closes_ring graph other vertex) (no_partner e f differ)

  -- the positions of the lower end say whether the bond lies in a ring
  pub told_below : is_alternating graph vertex ≡ true → is_in other (neighbours graph vertex) ≡ true
      → (other == partner graph vertex) ≡ false → is_in vertex (positions_at graph other) ≡ closes_ring graph vertex other
  told_below e nearer differ =
      told_by (is_alternating graph other) refl e nearer differ ∙ closes_either graph sound other vertex

  alternates_by : (b : Bool) (atom partner : ℕ) → ◌≡◌ {A = Option ℕ} (cond b (Some atom) None) (Some partner)
      → b ≡ true
  alternates_by true atom partner e = refl
  alternates_by false atom partner e = cc

  -- what was listed for the lower end decides it
  pub told_listed : (double : ℕ) (positions : List (List ℕ)) (list : List ℕ) (found : Bool)
      → ◌≡◌ {A = Option ℕ} (alternating_partner graph vertex) (Some double)
      → is_in other (neighbours graph vertex) ≡ true → AreListedBelow graph vertex positions → other < vertex
      → (other == double) ≡ false → list ≡ listed_positions positions other → found ≡ is_in vertex list
      → found ≡ ((other == double) || closes_ring graph vertex other)
  told_listed double positions list found some nearer below lt differ read is =
      let e = alternates_by (is_alternating graph vertex) (partner graph vertex) double some in
      let same : double ≡ partner graph vertex = partner_of graph vertex double (sym some) in
      is ∙ ap (is_in vertex) (read ∙ below.each other lt)
      ∙ told_below e nearer (ap (λ atom. other == atom) (sym same) ∙ differ)
      ∙ ap (λ b. b || closes_ring graph vertex other) (sym differ)
