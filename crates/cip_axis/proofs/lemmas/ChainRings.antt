-- A ring through the first bond of a chain goes through all of them, since an inner atom has two bonds.
use Rattle.std.proofs.Common.{◌≡◌, ◌≢◌, ◌⊎◌, ◌<◌, ◌+◌, ◌-◌, inl, inr, ℕ, zero, suc, Bool, true, false, cond, not, ◌==◌}
use Rattle.std.proofs.Common.{◌||◌, List, [], ◌∷◌, ◌++◌, length, map, refl, sym, ap, ◌∙◌, subst, arith, eqb-true}
use Rattle.std.specs.Prelude.{filter, slice_index_or}
use Rattle.std.specs.List.{AllByRecursion}
use Rattle.std.proofs.lemmas.Bool.{and_parts, eqb-false, ne_eqb, or_cases, not-true}
use Rattle.std.proofs.lemmas.List.{length-append, length-map}
use Rattle.std.proofs.Math.Bool.{or-false}
use Rattle.cip_digraph.specs.declared.drawing.graph.Edge.{Edge}
use Rattle.cip_digraph.specs.graph.Graph.{Graph, edges_at, neighbours, other_end}
use Rattle.cip_digraph.specs.graph.SoundGraphs.{IsSound}
use Rattle.cip_digraph.specs.rings.Alternating.{is_in}
use Rattle.cip_digraph.specs.rings.RingsThrough.{IsRingThrough, Walks}
use Rattle.cip_digraph.specs.units.Allenes.{doubles, is_allene_middle}
use Rattle.cip_digraph.proofs.lemmas.lists.Elements.{Pairwise, all_by, pairwise_append, pairwise_from_pairs}
use Rattle.cip_digraph.proofs.lemmas.lists.Elements.{pairs_from_pairwise}
use Rattle.cip_ring.specs.AnyRings.{is_in_ring}
use Rattle.cip_ring.proofs.lemmas.AnyRing.{rings_are_found}
use Rattle.cip_label.proofs.lemmas.FitUnits.{away, beside_each}
use Rattle.cip_unit.specs.Sites.{LeadsToAtoms}
use Rattle.cip_axis.specs.Cumulenes.{any_bond, chain_from, chain_over, continues_chain, next_atom, onward}
use Rattle.cip_axis.specs.Listing.{first_in_ring}
use Rattle.cip_axis.proofs.lemmas.Drawn.{next_below}

-- an atom with two bonds, both double

two_kept : (test : Edge → Bool) (edges : List Edge) → length edges ≡ 2 → length (filter test edges) ≡ 2
    → filter test edges ≡ edges
two_kept test [] p q = refl
two_kept test (edge ∷ []) p q = absurd (omega (arith, p))
two_kept test (edge ∷ next ∷ []) p q = by (test edge) (test next) q
  where
    by : (a b : Bool) → length (cond a (edge ∷ cond b (next ∷ []) []) (cond b (next ∷ []) [])) ≡ 2
        → cond a (edge ∷ cond b (next ∷ []) []) (cond b (next ∷ []) []) ≡ edge ∷ next ∷ []
    by true true h = refl
    by false true h = absurd (omega (arith, h))
    by a b h = absurd (omega (arith, h))
two_kept test (edge ∷ next ∷ more ∷ edges) p q = absurd (omega (arith, p))

none_behind : (b : Bool) → (b || false) ≡ true → b ≡ true
none_behind true e = refl
none_behind false e = e

-- of two numbers one is the given one, and what is left of them is the other
record IsOther (before at : ℕ) (both : List ℕ) (on : ℕ) : Type 0 where
  only : (other : ℕ) → is_in other both ≡ true → (other ≡ before) ⊎ (other ≡ on)
  each : (P : ℕ → Bool) → AllByRecursion (λ other. P other ≡ true) both → (P before ≡ true) × (P on ≡ true)

other_of : (before at : ℕ) (both : List ℕ) → length both ≡ 2
    → length (filter (λ other. not (other == before)) both) ≡ 1
    → IsOther before at both (slice_index_or (filter (λ other. not (other == before)) both) 0 at)
other_of before at [] p q = absurd (omega (arith, p))
other_of before at (one ∷ []) p q = absurd (omega (arith, p))
other_of before at (one ∷ other ∷ []) p q = by (one == before) (other == before) refl refl q
  where
    by : (a b : Bool) → (one == before) ≡ a → (other == before) ≡ b
        → length (cond (not a) (one ∷ cond (not b) (other ∷ []) []) (cond (not b) (other ∷ []) [])) ≡ 1
        → IsOther before at (one ∷ other ∷ [])
        (slice_index_or (cond (not a) (one ∷ cond (not b) (other ∷ []) []) (cond (not b) (other ∷ []) [])) 0 at)
    by true true e f h = absurd (omega (arith, h))
    by true false e f h = record {
      only = λ x g. elim (or_cases (one == x) ((other == x) || false) g) [
        | inl here ↦ inl (sym (eqb-true one x here) ∙ eqb-true one before e)
        | inr later ↦ inr (sym (eqb-true other x (none_behind (other == x) later)))
      ];
      each = λ P all. (subst (λ n. P n ≡ true) (eqb-true one before e) all.0, all.1.0);
    }
    by false true e f h = record {
      only = λ x g. elim (or_cases (one == x) ((other == x) || false) g) [
        | inl here ↦ inr (sym (eqb-true one x here))
        | inr later ↦ inl (sym (eqb-true other x (none_behind (other == x) later)) ∙ eqb-true other before f)
      ];
      each = λ P all. (subst (λ n. P n ≡ true) (eqb-true other before f) all.1.0, all.0);
    }
    by false false e f h = absurd (omega (arith, h))
other_of before at (one ∷ other ∷ more ∷ both) p q = absurd (omega (arith, p))

-- walks and rings

walk_more : (graph : Graph) (at : ℕ) (others : List ℕ) (target last : ℕ) → Walks graph at others target
    → is_in last (neighbours graph target) ≡ true → Walks graph at (others ++ last ∷ []) last
walk_more graph at [] target last way e = (subst (λ v. is_in last (neighbours graph v) ≡ true) (sym way) e, refl)
walk_more graph at (next ∷ others) target last way e = (way.0, walk_more graph next others target last way.1 e)

last_of : (graph : Graph) (P : ℕ → Type 0) (at next : ℕ) (others : List ℕ) (target : ℕ)
    → Walks graph at (next ∷ others) target → AllByRecursion P (next ∷ others) → P target
last_of graph P at next [] target way all = subst P way.1 all.0
last_of graph P at next (more ∷ others) target way all = last_of graph P next more others target way.1 all.1

turned_round : (v u : ℕ) (rest : List ℕ) → Pairwise ◌≢◌ (v ∷ u ∷ rest) → Pairwise ◌≢◌ (u ∷ (rest ++ v ∷ []))
turned_round v u rest differ =
    pairwise_append ◌≢◌ (u ∷ rest) (v ∷ []) differ.1 (tt, tt)
    (all_by (λ x. v ≢ x) (λ x. AllByRecursion (λ y. x ≢ y) (v ∷ [])) (λ x d. ((λ e. d (sym e)), tt)) (u ∷ rest)
    differ.0)

-- a ring from the atom v to the far end w comes to v over u, and is one from u to v
ring_by : (graph : Graph) (u v w next : ℕ) (rest : List ℕ) → next ≡ u → is_in v (neighbours graph w) ≡ true
    → IsRingThrough graph v w (next ∷ rest) → (others : List ℕ) × IsRingThrough graph u v others
ring_by graph u v w next rest same back ring = (
  rest ++ v ∷ [],
  subst (λ n. IsRingThrough graph n v (rest ++ v ∷ [])) same (record {
    way = walk_more graph next rest w v ring.way.1 back;
    different = pairs_from_pairwise ◌≢◌ (next ∷ (rest ++ v ∷ []))
        (turned_round v next rest (pairwise_from_pairs ◌≢◌ (v ∷ next ∷ rest) ring.different));
    some = let some = ring.some in let long = length-append rest (v ∷ []) in omega (arith, some, long);
  }),
)

-- it doesn't come to w at once
not_at_once : (graph : Graph) (v w next : ℕ) (rest : List ℕ) → next ≡ w → IsRingThrough graph v w (next ∷ rest) → ⊥
not_at_once graph v w next [] same ring = let some = ring.some in absurd (omega (arith, some))
not_at_once graph v w next (more ∷ rest) same ring =
    let differ = pairwise_from_pairs ◌≢◌ (v ∷ next ∷ more ∷ rest) ring.different in
    last_of graph (λ x. next ≢ x) next more rest w ring.way.1 differ.1.0 same

ring_back : (graph : Graph) (u v w : ℕ) (others : List ℕ)
    → ((other : ℕ) → is_in other (neighbours graph v) ≡ true → (other ≡ u) ⊎ (other ≡ w))
    → is_in v (neighbours graph w) ≡ true → IsRingThrough graph v w others
    → (round : List ℕ) × IsRingThrough graph u v round
ring_back graph u v w [] only back ring = let some = ring.some in absurd (omega (arith, some))
ring_back graph u v w (next ∷ rest) only back ring = elim (only next ring.way.0) [
  | inl same ↦ ring_by graph u v w next rest same back ring
  | inr same ↦ absurd (not_at_once graph v w next rest same ring)
]

-- chains

or_implied : (a b : Bool) → (b ≡ true → a ≡ true) → (a || b) ≡ a
or_implied true b f = refl
or_implied false true f = sym (f refl)
or_implied false false f = refl

module _ (graph : Graph) (sound : IsSound graph) (leads : LeadsToAtoms graph) where
  abbrev in_ring : ℕ → ℕ → Bool
  in_ring = is_in_ring graph

  within : (atom : ℕ) → atom < graph.drawn → atom < length graph.vertices
  within atom lt = let few = sound.drawn in omega (arith, few, lt)

  between : (before at : ℕ) → continues_chain graph before at ≡ true
      → IsOther before at (neighbours graph at) (next_atom graph before at)
  between before at e =
      let p = and_parts (is_allene_middle graph at) (length (onward graph before at) == 1) e in
      let q = and_parts _ (length (doubles graph at) == 2) p.0 in
      let r = and_parts _ (length (edges_at graph at) == 2) q.0 in
      let two : length (edges_at graph at) ≡ 2 = eqb-true (length (edges_at graph at)) 2 r.1 in
      let kept : filter (λ edge. edge.order == 2) (edges_at graph at) ≡ edges_at graph at =
      two_kept (λ edge. edge.order == 2) (edges_at graph at) two
      (sym (length-map (filter (λ edge. edge.order == 2) (edges_at graph at)) (other_end at))
      ∙ eqb-true (length (doubles graph at)) 2 q.1) in
      let same : doubles graph at ≡ neighbours graph at = ap (map (other_end at)) kept in
      subst (λ both. IsOther before at both (next_atom graph before at)) same
      (other_of before at (doubles graph at) (eqb-true (length (doubles graph at)) 2 q.1)
      (eqb-true (length (onward graph before at)) 1 p.1))

  -- a ring through the bond that leads on goes through the one that led there
  passes_back : (before at : ℕ) → before < graph.drawn → at < graph.drawn → continues_chain graph before at ≡ true
      → in_ring at (next_atom graph before at) ≡ true → in_ring before at ≡ true
  passes_back before at lt here e ring =
      let on = next_atom graph before at in
      let b = between before at e in
      let far = b.each (λ n. not (n == at)) (away_by at) in
      let back = b.each (λ n. is_in at (neighbours graph n)) (beside_each graph sound at) in
      let apart : at ≢ on = λ same. eqb-false on at (not-true (on == at) far.1) (sym same) in
      let found = (rings_are_found graph sound at on (within at here) apart).found ring in
      let round = ring_back graph before at on (found.0) b.only back.1 found.1 in
      (rings_are_found graph sound before at (within before lt)
      (eqb-false before at (not-true (before == at) far.0))).finds (round.0) round.1
    where
      away_by : (at : ℕ) → AllByRecursion (λ n. not (n == at) ≡ true) (neighbours graph at)
      away_by at =
          all_by (λ n. n ≢ at) (λ n. not (n == at) ≡ true) (λ n d. ap not (ne_eqb n at d)) (neighbours graph at)
          (away graph sound at)

  -- some bond after two atoms lies in a ring exactly where that between them does
  rings_along : (more before at : ℕ) → before < graph.drawn → at < graph.drawn
      → any_bond in_ring (before ∷ chain_from graph (suc more) before at) ≡ in_ring before at
  rings_along zero before at lt here = by (continues_chain graph before at)
    where
      by : (b : Bool) → any_bond in_ring (before ∷ at ∷ cond b [] []) ≡ in_ring before at
      by true = or-false (in_ring before at)
      by false = or-false (in_ring before at)
  rings_along (suc more) before at lt here =
      by (continues_chain graph before at) refl
      (rings_along more at (next_atom graph before at) here (next_below graph leads before at here))
    where
      by : (b : Bool) → continues_chain graph before at ≡ b
          → any_bond in_ring (at ∷ chain_from graph (suc more) at (next_atom graph before at))
          ≡ in_ring at (next_atom graph before at)
          → any_bond in_ring
          (before ∷ at ∷ cond b (chain_from graph (suc more) at (next_atom graph before at)) [])
          ≡ in_ring before at
      by true e rest =
          ap (λ c. in_ring before at || c) rest
          ∙ or_implied (in_ring before at) (in_ring at (next_atom graph before at)) (passes_back before at lt here e)
      by false e rest = or-false (in_ring before at)

  rings_of : (count a next : ℕ) → 0 < count → a < graph.drawn → next < graph.drawn
      → any_bond in_ring (a ∷ chain_from graph count a next)
      ≡ first_in_ring graph (a ∷ chain_from graph count a next)
  rings_of zero a next some lt on = absurd (omega (arith, some))
  rings_of (suc more) a next some lt on = rings_along more a next lt on

  pub chain_rings : (a next : ℕ) → a < graph.drawn → next < graph.drawn
      → any_bond in_ring (chain_over graph a next) ≡ first_in_ring graph (chain_over graph a next)
  chain_rings a next lt on =
      let few = within a lt in
      rings_of (length graph.vertices) a next (omega (arith, few)) lt on
