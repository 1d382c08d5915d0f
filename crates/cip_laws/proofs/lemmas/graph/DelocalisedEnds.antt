-- A double bond of an alternating ring is delocalised at both of its ends: the ring can be gone round the other way.
use Rattle.std.proofs.Common.{◌≡◌, ◌≢◌, inl, inr, ◌<◌, ℕ, List, [], ◌∷◌, ◌++◌, length, filter, refl, sym, ap, append_assoc, subst, ◌∙◌, Bool, true, false, cond, ◌==◌, ◌||◌, nat_lt, nat_le, eqb-true, eq-eqb, lt-ltb, ltb-true, arith}
use Rattle.std.specs.Prelude.{◌↔◌}
use Rattle.std.specs.List.{AllByRecursion}
use Rattle.std.specs.List.Sorted.{IsPermutation}
use Rattle.std.proofs.lemmas.List.Sorted.{IsPermutation-refl, IsPermutation-cons, IsPermutation-trans, IsPermutation-sym, IsPermutation-append, IsPermutation-append_comm, IsPermutation-middle, length_permutation, All-permutation}
use Rattle.std.proofs.lemmas.List.{append-nil}
use Rattle.std.proofs.lemmas.List.FromFn.{get_or-map-range_with_len}
use Rattle.cip_digraph.specs.rings.Alternating.{is_in, counted_at, is_one_double, is_alternating, partner_by, partner, singles, closes_ring}
use Rattle.cip_digraph.specs.rings.AlternatingRings.{Alternates, met, ring_of, IsAlternatingRing}
use Rattle.cip_digraph.specs.declared.drawing.graph.Edge.{Edge}
use Rattle.cip_digraph.specs.graph.Graph.{Graph, edges_at, other_end, neighbours}
use Rattle.cip_digraph.specs.rings.Positions.{positions_at, positions_of, is_delocalised}
use Rattle.cip_digraph.specs.graph.SoundGraphs.{JoinsBelow, IsSound}
use Rattle.cip_digraph.proofs.lemmas.ways.Alternating.{ring_found, ring_finds}
use Rattle.cip_digraph.proofs.lemmas.lists.Elements.{Pairwise, pairwise_filtered, pairwise_from_pairs, pairs_from_pairwise, by_recursion}
use Rattle.cip_digraph.proofs.lemmas.bonds.Neighbours.{neighbours_differ}
use Rattle.cip_mancude.proofs.lemmas.Turned.{partner_back, single_back}
use Rattle.cip_symmetry.specs.Images.{Among}
use Rattle.cip_symmetry.proofs.lemmas.lists.Among.{among_map, from_map, among_filter, from_filter, among_from_in, among_all}
use Rattle.cip_symmetry.specs.Renamed.{Way, way, ways}
use Rattle.cip_symmetry.proofs.lemmas.outcomes.LastReasons.{pairwise_arranged}
use Rattle.cip_laws.proofs.lemmas.further.AllButOne.{two_members}
use Rattle.cip_laws.proofs.lemmas.graph.WaySymmetry.{edge_of, back_way, leads_back, one_way_to}
use Rattle.std.proofs.lemmas.Bool.{true≢false, and_parts, or_right}
use Rattle.cip_symmetry.proofs.lemmas.lists.Truths.{same_truth}

pub record OneEdge (edges : List Edge) : Type 0 where
  pub edge : Edge
  pub is : edges ≡ edge ∷ []
  pub double : (edge.order == 2) ≡ true

pub one_edge : (edges : List Edge) → is_one_double edges ≡ true → OneEdge edges
one_edge [] e = absurd (true≢false (sym e))
one_edge (edge ∷ []) e = record { edge = edge; is = refl; double = e }
one_edge (edge ∷ next ∷ edges) e = absurd (true≢false (sym e))

module _ (graph : Graph) where
  -- the double bond of an alternating atom
  pub record Doubled (v : ℕ) : Type 0 where
    pub edge : Edge
    pub among : Among edge (edges_at graph v)
    pub counted : edge.counted ≡ true
    pub order : edge.order ≡ 2
    pub is : partner graph v ≡ other_end v edge
    pub only : (u : Way) → Among u (ways graph v) → u.counted ≡ true → u ≡ way v edge

  pub doubled : (v : ℕ) → is_alternating graph v ≡ true → Doubled v
  doubled v e =
      let one =
      one_edge (counted_at graph v)
      (and_parts (is_one_double (counted_at graph v)) (nat_le (length (edges_at graph v)) 3) e).0 in
      let kept =
      from_filter (λ edge. edge.counted) one.edge (edges_at graph v) (subst (Among one.edge) (sym one.is) (inl refl)) in
      record {
        edge = one.edge;
        among = kept.0;
        counted = kept.1;
        order = eqb-true one.edge.order 2 one.double;
        is = ap (partner_by v) one.is;
        only = λ u h c.
            let found = from_map (way v) u (edges_at graph v) h in
            let again : Among found.0 (one.edge ∷ []) =
            subst (Among found.0) one.is
            (among_filter (λ edge. edge.counted) found.0 (edges_at graph v) found.1
            (sym (ap (λ (w : Way). w.counted) found.2) ∙ c)) in
            elim again [ inl same ↦ found.2 ∙ ap (way v) same | inr bad ↦ absurd bad ];
      }

  pub partner_beside : (v : ℕ) → is_alternating graph v ≡ true → Among (partner graph v) (neighbours graph v)
  partner_beside v e =
      let d = doubled v e in
      subst (λ u. Among u (neighbours graph v)) (sym d.is) (among_map (other_end v) d.edge (edges_at graph v) d.among)

  -- an edge of a single bond
  pub record IsSingle (v to : ℕ) : Type 0 where
    pub edge : Edge
    pub among : Among edge (edges_at graph v)
    pub order : edge.order ≡ 1
    pub is : to ≡ other_end v edge

  pub single_of : (v to : ℕ) → is_in to (singles graph v) ≡ true → IsSingle v to
  single_of v to e =
      let found =
      from_map (other_end v) to (filter (λ edge. edge.order == 1) (edges_at graph v))
      (among_from_in to (singles graph v) e) in
      let kept = from_filter (λ edge. edge.order == 1) found.0 (edges_at graph v) found.1 in
      record { edge = found.0; among = kept.0; order = eqb-true found.0.order 1 kept.1; is = found.2 }

  pub single_beside : (v to : ℕ) → is_in to (singles graph v) ≡ true → Among to (neighbours graph v)
  single_beside v to e =
      let s = single_of v to e in
      subst (λ u. Among u (neighbours graph v)) (sym s.is) (among_map (other_end v) s.edge (edges_at graph v) s.among)

module _ (graph : Graph) (sound : IsSound graph) where
  single_not_partner : (v to : ℕ) → is_alternating graph v ≡ true → is_in to (singles graph v) ≡ true
      → partner graph v ≢ to
  single_not_partner v to e f same =
      let d = doubled graph v e in
      let s = single_of graph v to f in
      let one : way v d.edge ≡ way v s.edge =
      one_way_to graph sound v (way v d.edge) (way v s.edge)
      (among_map (way v) d.edge (edges_at graph v) d.among) (among_map (way v) s.edge (edges_at graph v) s.among)
      (sym d.is ∙ same ∙ s.is) in
      let orders : d.edge.order ≡ s.edge.order = ap (λ (w : Way). w.order) one in
      let two = d.order in
      let first = s.order in
      absurd (omega (arith, two, first, orders))

  -- the ring gone round the other way
  abbrev turned : List ℕ → List ℕ → List ℕ
  turned [] after = after
  turned (next ∷ others) after = turned others (partner graph next ∷ after)

  abbrev IsAlternatingAtom : ℕ → Type 0
  IsAlternatingAtom v = is_alternating graph v ≡ true

  turned_way : (start at : ℕ) (nexts after : List ℕ) (target : ℕ) → Alternates graph at nexts target
      → AllByRecursion IsAlternatingAtom (met graph nexts)
      → ((y : ℕ) → is_in at (singles graph y) ≡ true → Alternates graph y after start) → (y : ℕ)
      → is_in target (singles graph y) ≡ true → Alternates graph y (turned nexts after) start
  turned_way start at [] after target way all ends y e =
      ends y (subst (λ v. is_in v (singles graph y) ≡ true) (sym way) e)
  turned_way start at (next ∷ others) after target way all ends y e =
      turned_way start (partner graph next) others (partner graph next ∷ after) target way.1 all.1.1
      (λ z f. (
        f,
        subst (λ v. Alternates graph v after start) (sym (partner_back graph sound next all.0 all.1.0))
            (ends next (single_back graph sound at next way.0)),
      )) y e

  turned_met : (nexts after : List ℕ) → AllByRecursion IsAlternatingAtom (met graph nexts)
      → IsPermutation (met graph nexts ++ met graph after) (met graph (turned nexts after))
  turned_met [] after all = IsPermutation-refl (met graph after)
  turned_met (next ∷ others) after all =
      let p = partner graph next in
      let rest = met graph others in
      let behind = met graph after in
      let same : met graph (p ∷ after) ≡ p ∷ next ∷ behind =
      ap (λ v. p ∷ v ∷ behind) (partner_back graph sound next all.0 all.1.0) in
      let ih : IsPermutation (rest ++ (p ∷ next ∷ behind)) (met graph (turned others (p ∷ after))) =
      subst (λ ms. IsPermutation (rest ++ ms) (met graph (turned others (p ∷ after)))) same
      (turned_met others (p ∷ after) all.1.1) in
      let first : IsPermutation (rest ++ (p ∷ next ∷ behind)) (next ∷ (rest ++ (p ∷ behind))) =
      rw (← append_assoc rest (p ∷ []) (next ∷ behind), ← append_assoc rest (p ∷ []) behind)
      (IsPermutation-middle (rest ++ (p ∷ [])) next behind) in
      IsPermutation-trans (next ∷ p ∷ (rest ++ behind)) (rest ++ (p ∷ next ∷ behind))
      (met graph (turned others (p ∷ after)))
      (IsPermutation-sym (rest ++ (p ∷ next ∷ behind)) (next ∷ p ∷ (rest ++ behind))
      (IsPermutation-trans (rest ++ (p ∷ next ∷ behind)) (next ∷ (rest ++ (p ∷ behind))) (next ∷ p ∷ (rest ++ behind))
      first
      (IsPermutation-cons next (rest ++ (p ∷ behind)) (p ∷ (rest ++ behind)) (IsPermutation-middle rest p behind)))) ih

  ring_back : (a o : ℕ) (nexts : List ℕ) → IsAlternatingRing graph a o nexts
      → (b : ℕ) × IsAlternatingRing graph (partner graph a) b (turned nexts [])
  ring_back a o [] ring = absurd (let some = ring.some in omega (arith, some))
  ring_back a o (next ∷ others) ring =
      let b = partner graph a in
      let all = by_recursion IsAlternatingAtom (ring_of graph a (next ∷ others)) ring.alternating in
      let back : partner graph b ≡ a = partner_back graph sound a all.0 all.1.0 in
      let p = partner graph next in
      let here = met graph (next ∷ others) in
      let nexts = turned (next ∷ others) [] in
      let moved : IsPermutation here (met graph nexts) =
      subst (λ ms. IsPermutation ms (met graph nexts)) (append-nil here) (turned_met (next ∷ others) [] all.1.1) in
      let whole : IsPermutation (ring_of graph a (next ∷ others)) (ring_of graph b nexts) =
      rw back
      (IsPermutation-append (a ∷ b ∷ []) (b ∷ a ∷ []) here (met graph nexts)
      (IsPermutation-append_comm (a ∷ []) (b ∷ [])) moved) in
      let long : length (ring_of graph b nexts) ≡ length (ring_of graph a (next ∷ others)) =
      length_permutation (ring_of graph a (next ∷ others)) (ring_of graph b nexts) whole in (
        next,
        record {
          single = ring.way.0;
          way = subst (λ v. Alternates graph v nexts next) (sym back)
              (turned_way next p others (p ∷ []) o ring.way.1 all.1.1.1.1
              (λ y e. (e, partner_back graph sound next all.1.1.0 all.1.1.1.0)) a ring.single);
          alternating =
              All-permutation IsAlternatingAtom (ring_of graph a (next ∷ others)) (ring_of graph b nexts) whole
              ring.alternating;
          different = pairs_from_pairwise ◌≢◌ (ring_of graph b nexts)
              (pairwise_arranged ◌≢◌ (λ x y d e. d (sym e)) (ring_of graph a (next ∷ others)) (ring_of graph b nexts)
              whole (pairwise_from_pairs ◌≢◌ (ring_of graph a (next ∷ others)) ring.different));
          some = (let most = ring.some in omega (arith, most, long));
          few = (let most = ring.few in omega (arith, most, long));
        },
      )

  abbrev Closes : ℕ → Type 0
  Closes v = (to : ℕ) × (closes_ring graph v to ≡ true)

  alternates_if : (v : ℕ) → Closes v → is_alternating graph v ≡ true
  alternates_if v c =
      let ring = ring_found graph sound v c.0 c.1 in
      (by_recursion IsAlternatingAtom (ring_of graph v ring.0) ring.1.alternating).0

  closes_back : (v : ℕ) → Closes v → Closes (partner graph v)
  closes_back v c =
      let ring = ring_found graph sound v c.0 c.1 in
      let other = ring_back v c.0 ring.0 ring.1 in
      (other.0, ring_finds graph sound (partner graph v) other.0 (turned ring.0 [], other.1))

  abbrev position_test : ℕ → ℕ → Bool
  position_test v to = (to == partner graph v) || closes_ring graph v to

  many_if : (v : ℕ) → Closes v → nat_lt 1 (length (positions_at graph v)) ≡ true
  many_if v c =
      let e = alternates_if v c in
      let ring = ring_found graph sound v c.0 c.1 in
      let here : Among (partner graph v) (filter (position_test v) (neighbours graph v)) =
      among_filter (position_test v) (partner graph v) (neighbours graph v)
      (partner_beside graph v e)
      (ap (λ b. b || closes_ring graph v (partner graph v)) (eq-eqb (partner graph v) (partner graph v) refl)) in
      let there : Among c.0 (filter (position_test v) (neighbours graph v)) =
      among_filter (position_test v) c.0 (neighbours graph v)
      (single_beside graph v c.0 ring.1.single)
      (or_right (c.0 == partner graph v) (closes_ring graph v c.0) c.1) in
      ap (λ b. nat_lt 1 (length (cond b (filter (position_test v) (neighbours graph v)) []))) e
      ∙ lt-ltb 1 (length (filter (position_test v) (neighbours graph v)))
      (two_members _ (partner graph v) c.0 here there (single_not_partner v c.0 e ring.1.single))

  closes_in : (v : ℕ) (xs : List ℕ) → Pairwise ◌≢◌ xs → AllByRecursion (λ x. position_test v x ≡ true) xs
      → 1 < length xs → Closes v
  closes_in v [] differ all lt = absurd (omega (arith, lt))
  closes_in v (x ∷ []) differ all lt = absurd (omega (arith, lt))
  closes_in v (x ∷ y ∷ xs) differ all lt = by (x == partner graph v) refl (y == partner graph v) refl
    where
      rest_of : (z : ℕ) (b : Bool) → (z == partner graph v) ≡ b → b ≡ false → position_test v z ≡ true
          → closes_ring graph v z ≡ true
      rest_of z b e f t = sym (ap (λ c. c || closes_ring graph v z) (e ∙ f)) ∙ t

      by : (a : Bool) → (x == partner graph v) ≡ a → (b : Bool) → (y == partner graph v) ≡ b → Closes v
      by false e b f = (x, rest_of x false e refl all.0)
      by true e false f = (y, rest_of y false f refl all.1.0)
      by true e true f = absurd (differ.0.0 (eqb-true x (partner graph v) e ∙ sym (eqb-true y (partner graph v) f)))

  filtered_all : (test : ℕ → Bool) (xs : List ℕ) → AllByRecursion (λ x. test x ≡ true) (filter test xs)
  filtered_all test [] = tt
  filtered_all test (x ∷ xs) = by (test x) refl (filtered_all test xs)
    where
      by : (b : Bool) → test x ≡ b → AllByRecursion (λ x. test x ≡ true) (filter test xs)
          → AllByRecursion (λ x. test x ≡ true) (cond b (x ∷ filter test xs) (filter test xs))
      by true e all = (e, all)
      by false e all = all

  closes_if : (v : ℕ) → nat_lt 1 (length (positions_at graph v)) ≡ true → Closes v
  closes_if v e = by (is_alternating graph v) refl e
    where
      by : (b : Bool) → is_alternating graph v ≡ b
          → nat_lt 1 (length (cond b (filter (position_test v) (neighbours graph v)) [])) ≡ true → Closes v
      by false f g = absurd (let lt = ltb-true 1 0 g in omega (arith, lt))
      by true f g =
          closes_in v (filter (position_test v) (neighbours graph v))
          (pairwise_filtered ◌≢◌ (position_test v) (neighbours graph v) (neighbours_differ graph sound v))
          (filtered_all (position_test v) (neighbours graph v))
          (ltb-true 1 (length (filter (position_test v) (neighbours graph v))) g)

  pub listed : (v : ℕ) → v < length graph.vertices
      → is_delocalised (positions_of graph) v ≡ nat_lt 1 (length (positions_at graph v))
  unfolding positions_of
  listed v lt =
      ap (λ vs. nat_lt 1 (length vs))
      (get_or-map-range_with_len (positions_at graph) 0 (length graph.vertices) v v [] lt (omega arith))

  pub record InRange (v : ℕ) (w : Way) : Type 0 where
    pub here : v < length graph.vertices
    pub there : w.to < length graph.vertices

  pub in_range : (v : ℕ) (w : Way) → Among w (ways graph v) → InRange v w
  in_range v w h =
      let e = edge_of graph v w h in
      let j =
      among_all (JoinsBelow (length graph.vertices)) e.edge graph.edges
      (by_recursion (JoinsBelow (length graph.vertices)) graph.edges sound.edges) e.among in
      subst (InRange v) (sym e.is) (by e.edge j (e.edge.a == v) refl e.touched)
    where
      by : (edge : Edge) → JoinsBelow (length graph.vertices) edge → (b : Bool) → (edge.a == v) ≡ b
          → (b || (edge.b == v)) ≡ true → InRange v (way v edge)
      by edge j true e t = record {
        here = subst (λ u. u < length graph.vertices) (eqb-true edge.a v e) j.a;
        there = subst (λ x. cond x edge.b edge.a < length graph.vertices) (sym e) j.b;
      }
      by edge j false e t = record {
        here = subst (λ u. u < length graph.vertices) (eqb-true edge.b v t) j.b;
        there = subst (λ x. cond x edge.b edge.a < length graph.vertices) (sym e) j.a;
      }

  one_end : (v : ℕ) (w : Way) → Among w (ways graph v) → w.counted ≡ true
      → is_delocalised (positions_of graph) v ≡ true → is_delocalised (positions_of graph) w.to ≡ true
  one_end v w h c e =
      let r = in_range v w h in
      let closes = closes_if v (sym (listed v r.here) ∙ e) in
      let d = doubled graph v (alternates_if v closes) in
      let to : partner graph v ≡ w.to = d.is ∙ sym (ap (λ (u : Way). u.to) (d.only w h c)) in
      listed w.to r.there ∙ many_if w.to (subst (λ u. Closes u) to (closes_back v closes))

  -- both ends of a double bond are delocalised, or neither is
  pub delocalised_at_both : (a : ℕ) (w : Way) → Among w (ways graph a) → w.counted ≡ true → (w.order == 2) ≡ true
      → is_delocalised (positions_of graph) w.to ≡ is_delocalised (positions_of graph) a
  delocalised_at_both a w h c o =
      same_truth (is_delocalised (positions_of graph) w.to) (is_delocalised (positions_of graph) a)
      (one_end w.to (back_way graph a w) (leads_back graph sound a w h).back c) (one_end a w h c)

  -- an atom has several positions exactly where a ring goes on from it
  pub several_in_rings : (v : ℕ) → v < length graph.vertices
      → (is_delocalised (positions_of graph) v ≡ true)
      ↔ ((other : ℕ) × (nexts : List ℕ) × IsAlternatingRing graph v other nexts)
  several_in_rings v here = (
    λ e. (
        let c = closes_if v (sym (listed v here) ∙ e) in
        let ring = ring_found graph sound v c.0 c.1 in
        (c.0, ring.0, ring.1)
        ),
    λ ring. listed v here ∙ many_if v (ring.0, ring_finds graph sound v ring.0 (ring.1, ring.2)),
  )
