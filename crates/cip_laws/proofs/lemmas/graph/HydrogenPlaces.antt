-- Implicit hydrogens are numbered in turn: each number after the atoms is one hydrogen of one atom.
use Rattle.std.proofs.Common.{◌≡◌, ◌≢◌, ◌⊎◌, inl, inr, ◌<◌, ◌≤◌, ◌+◌, ◌-◌, ℕ, zero, suc, List, [], ◌∷◌, ◌++◌, map, length, filter, replicate, sum, refl, sym, ap, subst, ◌∙◌, Bool, true, false, ◌==◌, nat_lt, flat_map, eqb-true, eq-eqb, ltb-true, ltb-false, arith}
use Rattle.std.specs.List.{range_with_len}
use Rattle.std.proofs.lemmas.Bool.{eqb-false, ne_eqb}
use Rattle.std.proofs.lemmas.List.Sums.{sum_by-cons}
use Rattle.std.proofs.lemmas.List.{append-nil, map-append, length-append}
use Rattle.std.proofs.lemmas.List.Elements.{filter-append}
use Rattle.cip_digraph.specs.graph.DrawnGraph.{hydrogen_edges}
use Rattle.cip_digraph.specs.declared.drawing.graph.Edge.{Edge}
use Rattle.cip_digraph.specs.graph.Graph.{touches}
use Rattle.cip_symmetry.specs.Renamed.{Way, way}

module _ (f : ℕ → ℕ) where
  -- how many come before
  abbrev pub before : ℕ → ℕ → ℕ
  before start count = sum (map f (range_with_len start count))

  pub before_more : (start count : ℕ) → before start (suc count) ≡ f start + before (start + 1) count
  before_more start count = sum_by-cons (λ n. n) (f start) (map f (range_with_len (start + 1) count))

  -- a number below all of them is one of one
  pub record IsPlaced (start count number : ℕ) : Type 0 where
    pub place : ℕ
    pub index : ℕ
    pub below : place < count
    pub within : index < f (start + place)
    pub is : number ≡ before start place + index

  pub locate : (start count number : ℕ) → number < before start count → IsPlaced start count number
  locate start zero number lt = absurd (omega (arith, lt))
  locate start (suc count) number lt =
      by (nat_lt number (f start)) refl
      (λ low. locate (start + 1) count (number - f start)
      (let e = before_more start count in omega (arith, lt, e, low)))
    where
      by : (b : Bool) → nat_lt number (f start) ≡ b
          → (f start ≤ number → IsPlaced (start + 1) count (number - f start)) → IsPlaced start (suc count) number
      by true e rest = record {
        place = 0;
        index = number;
        below = omega arith;
        within = subst (λ n. number < f n) (let g : start ≡ start + 0 = omega arith in g) (ltb-true number (f start) e);
        is = omega arith;
      }
      by false e rest =
          let low = ltb-false number (f start) e in
          let found = rest low in
          record {
            place = suc found.place;
            index = found.index;
            below = (let b = found.below in omega (arith, b));
            within =
                subst (λ n. found.index < f n)
                (let g : start + 1 + found.place ≡ start + suc found.place = omega arith in g) found.within;
            is = (let is = found.is in let more = before_more start found.place in omega (arith, is, more, low));
          }

  pub below_later : (start one other : ℕ) → one < other → before start one + f (start + one) ≤ before start other
  below_later start one zero lt = absurd (omega (arith, lt))
  below_later start zero (suc other) lt =
      let more = before_more start other in
      let same : f (start + 0) ≡ f start = ap f (let g : start + 0 ≡ start = omega arith in g) in
      omega (arith, more, same)
  below_later start (suc one) (suc other) lt =
      let rest = below_later (start + 1) one other (omega (arith, lt)) in
      let more = before_more start one in
      let most = before_more start other in
      let same : f (start + suc one) ≡ f (start + 1 + one) =
      ap f (let g : start + suc one ≡ start + 1 + one = omega arith in g) in
      omega (arith, rest, more, most, same)

  pub one_place : (one other i j : ℕ) → i < f one → j < f other → before 0 one + i ≡ before 0 other + j
      → (one ≡ other) × (i ≡ j)
  one_place one other i j lt_i lt_j e = by (nat_lt one other) (nat_lt other one) refl refl
    where
      at : (n : ℕ) → f (0 + n) ≡ f n
      at n = ap f (let g : 0 + n ≡ n = omega arith in g)

      by : (a b : Bool) → nat_lt one other ≡ a → nat_lt other one ≡ b → (one ≡ other) × (i ≡ j)
      by true b g h =
          absurd
          (let later = below_later 0 one other (ltb-true one other g) in let same = at one in
          omega (arith, later, same, lt_i, e))
      by false true g h =
          absurd
          (let later = below_later 0 other one (ltb-true other one h) in let same = at other in
          omega (arith, later, same, lt_j, e))
      by false false g h =
          let same : one ≡ other =
          (let low = ltb-false one other g in let high = ltb-false other one h in omega (arith, low, high)) in
          let counts : before 0 one ≡ before 0 other = ap (before 0) same in
          (same, omega (arith, counts, e))

abbrev pub single_way : ℕ → Way
single_way to = record { to = to; order = 1; counted = false }

-- the ways to n hydrogens, numbered from one on
abbrev pub ways_from : ℕ → ℕ → List Way
ways_from number zero = []
ways_from number (suc count) = single_way number ∷ ways_from (number + 1) count

hydrogens_append : (number : ℕ) (xs ys : List ℕ)
    → hydrogen_edges number (xs ++ ys) ≡ hydrogen_edges number xs ++ hydrogen_edges (number + length xs) ys
hydrogens_append number [] ys = ap (λ n. hydrogen_edges n ys) (let e : number ≡ number + 0 = omega arith in e)
hydrogens_append number (x ∷ xs) ys =
    ap (λ es. record { a = x; b = number; order = 1; counted = false } ∷ es)
    (hydrogens_append (number + 1) xs ys
    ∙ ap (λ n. hydrogen_edges (number + 1) xs ++ hydrogen_edges n ys)
    (let e : number + 1 + length xs ≡ number + length (x ∷ xs) = omega arith in e))

abbrev pub ways_in : ℕ → List Edge → List Way
ways_in vertex edges = map (way vertex) (filter (touches vertex) edges)

pub ways_append : (vertex : ℕ) (xs ys : List Edge) → ways_in vertex (xs ++ ys) ≡ ways_in vertex xs ++ ways_in vertex ys
ways_append vertex xs ys =
    ap (map (way vertex)) (filter-append (touches vertex) xs ys)
    ∙ map-append (way vertex) (filter (touches vertex) xs) (filter (touches vertex) ys)

copies_long : (count x : ℕ) → length (replicate count x) ≡ count
copies_long zero x = refl
copies_long (suc count) x = ap suc (copies_long count x)

-- the hydrogens of one atom
module _ (atom : ℕ) where
  abbrev hydrogen_edge : ℕ → Edge
  hydrogen_edge number = record { a = atom; b = number; order = 1; counted = false }

  pub own_ways : (count number : ℕ)
      → ways_in atom (hydrogen_edges number (replicate count atom)) ≡ ways_from number count
  own_ways zero number = refl
  own_ways (suc count) number =
      rw (eq-eqb atom atom refl, eq-eqb atom atom refl)
      (ap (λ ws. single_way number ∷ ws) (own_ways count (number + 1)))

  pub no_ways : (vertex : ℕ) → atom ≢ vertex → (count number : ℕ) → (vertex < number) ⊎ (number + count ≤ vertex)
      → ways_in vertex (hydrogen_edges number (replicate count atom)) ≡ []
  no_ways vertex differ zero number out = refl
  no_ways vertex differ (suc count) number out =
      let other : number ≢ vertex =
      λ e. elim out [ inl lt ↦ absurd (omega (arith, lt, e)) | inr le ↦ absurd (omega (arith, le, e)) ] in
      rw (ne_eqb atom vertex differ, ne_eqb number vertex other)
      (no_ways vertex differ count (number + 1)
      (elim out [ inl lt ↦ inl (omega (arith, lt)) | inr le ↦ inr (omega (arith, le)) ]))

  pub one_way : (vertex : ℕ) → atom ≢ vertex → (count number : ℕ) → number ≤ vertex → vertex < number + count
      → ways_in vertex (hydrogen_edges number (replicate count atom)) ≡ single_way atom ∷ []
  one_way vertex differ zero number low high = absurd (omega (arith, low, high))
  one_way vertex differ (suc count) number low high =
      by (number == vertex) refl (λ le. one_way vertex differ count (number + 1) le (omega (arith, high)))
    where
      rest : List Edge
      rest = hydrogen_edges (number + 1) (replicate count atom)

      by : (b : Bool) → (number == vertex) ≡ b → (number + 1 ≤ vertex → ways_in vertex rest ≡ single_way atom ∷ [])
          → ways_in vertex (hydrogen_edge number ∷ rest) ≡ single_way atom ∷ []
      by true e more =
          let same = eqb-true number vertex e in
          rw (ne_eqb atom vertex differ, e, ne_eqb atom vertex differ)
          (ap (λ ws. single_way atom ∷ ws) (no_ways vertex differ count (number + 1) (inl (omega (arith, same)))))
      by false e more =
          let differs = eqb-false number vertex e in
          rw (ne_eqb atom vertex differ, e) (more (omega (arith, low, differs)))

-- the hydrogens of atoms in turn
module _ (f : ℕ → ℕ) where
  abbrev pub carried : ℕ → ℕ → List ℕ
  carried start count = flat_map (λ atom. replicate (f atom) atom) (range_with_len start count)

  pub carried_long : (start count : ℕ) → length (carried start count) ≡ before f start count
  carried_long start zero = refl
  carried_long start (suc count) =
      length-append (replicate (f start) start) (carried (start + 1) count)
      ∙ ap (λ n. n + length (carried (start + 1) count)) (copies_long (f start) start)
      ∙ ap (λ n. f start + n) (carried_long (start + 1) count) ∙ sym (before_more f start count)

  turn : (vertex start count number : ℕ) → ways_in vertex (hydrogen_edges number (carried start (suc count)))
      ≡ ways_in vertex (hydrogen_edges number (replicate (f start) start))
      ++ ways_in vertex (hydrogen_edges (number + f start) (carried (start + 1) count))
  turn vertex start count number =
      ap (ways_in vertex) (hydrogens_append number (replicate (f start) start) (carried (start + 1) count)
      ∙ ap
      (λ n. hydrogen_edges number (replicate (f start) start)
      ++ hydrogen_edges (number + n) (carried (start + 1) count)) (copies_long (f start) start))
      ∙ ways_append vertex (hydrogen_edges number (replicate (f start) start))
      (hydrogen_edges (number + f start) (carried (start + 1) count))

  -- of an atom that isn't one of them
  not_carried : (vertex start count number : ℕ) → (vertex < start) ⊎ (start + count ≤ vertex) → vertex < number
      → ways_in vertex (hydrogen_edges number (carried start count)) ≡ []
  not_carried vertex start zero number out lt = refl
  not_carried vertex start (suc count) number out lt =
      rw (
        turn vertex start count number,
        no_ways start vertex
            (λ e. elim out [ inl low ↦ absurd (omega (arith, low, e)) | inr high ↦ absurd (omega (arith, high, e)) ])
            (f start) number (inl lt),
      )
      (not_carried vertex (start + 1) count (number + f start)
      (elim out [ inl low ↦ inl (omega (arith, low)) | inr high ↦ inr (omega (arith, high)) ]) (omega (arith, lt)))

  pub atom_ways : (place start count number : ℕ) → place < count → start + place < number
      → ways_in (start + place) (hydrogen_edges number (carried start count))
      ≡ ways_from (number + before f start place) (f (start + place))
  atom_ways place start zero number lt low = absurd (omega (arith, lt))
  atom_ways zero start (suc count) number lt low =
      let same : start + 0 ≡ start = omega arith in
      rw (
        same,
        turn start start count number,
        own_ways start (f start) number,
        not_carried start (start + 1) count (number + f start) (inl (omega arith)) (omega (arith, low)),
        append-nil (ways_from number (f start)),
      )
      (ap (λ n. ways_from n (f start)) (let e : number ≡ number + 0 = omega arith in e))
  atom_ways (suc place) start (suc count) number lt low =
      let same : start + suc place ≡ start + 1 + place = omega arith in
      rw (
        same,
        turn (start + 1 + place) start count number,
        no_ways start (start + 1 + place) (λ e. absurd (omega (arith, e))) (f start) number (inl (omega (arith, low))),
      )
      (atom_ways place (start + 1) count (number + f start) (omega (arith, lt)) (omega (arith, low))
      ∙ ap (λ n. ways_from n (f (start + 1 + place)))
      (let more = before_more f start place in
      let e : number + f start + before f (start + 1) place ≡ number + before f start (suc place) =
      omega (arith, more) in e))

  -- of a hydrogen
  pub hydrogen_ways : (place start count number index : ℕ) → place < count → index < f (start + place)
      → start + count ≤ number
      → ways_in (number + before f start place + index) (hydrogen_edges number (carried start count))
      ≡ single_way (start + place) ∷ []
  hydrogen_ways place start zero number index lt within low = absurd (omega (arith, lt))
  hydrogen_ways zero start (suc count) number index lt within low =
      let same : start + 0 ≡ start = omega arith in
      let at : number + before f start 0 + index ≡ number + index =
      (let none : before f start 0 ≡ 0 = refl in omega (arith, none)) in
      let few : index < f start = subst (λ v. index < f v) same within in
      rw (
        at,
        turn (number + index) start count number,
        one_way start (number + index) (λ e. absurd (omega (arith, e, low))) (f start) number (omega arith)
            (omega (arith, few)),
        before_all (number + index) (start + 1) count (number + f start) (omega (arith, few)) (omega (arith, low)),
        same,
      )
    where
      before_all : (vertex start count number : ℕ) → vertex < number → start + count ≤ vertex
          → ways_in vertex (hydrogen_edges number (carried start count)) ≡ []
      before_all vertex start zero number lt le = refl
      before_all vertex start (suc count) number lt le =
          rw (
            turn vertex start count number,
            no_ways start vertex (λ e. absurd (omega (arith, e, le))) (f start) number (inl lt),
          )
          (before_all vertex (start + 1) count (number + f start) (omega (arith, lt)) (omega (arith, le)))
  hydrogen_ways (suc place) start (suc count) number index lt within low =
      let same : start + suc place ≡ start + 1 + place = omega arith in
      let at : number + before f start (suc place) + index ≡ number + f start + before f (start + 1) place + index =
      (let more = before_more f start place in omega (arith, more)) in
      rw (
        at,
        turn (number + f start + before f (start + 1) place + index) start count number,
        no_ways start (number + f start + before f (start + 1) place + index) (λ e. absurd (omega (arith, e, low)))
            (f start) number (inr (omega arith)),
        same,
      )
      (hydrogen_ways place (start + 1) count (number + f start) index (omega (arith, lt))
      (subst (λ v. index < f v) same within) (omega (arith, low)))

  -- after all hydrogens
  pub beyond_ways : (vertex start count number : ℕ) → number + before f start count ≤ vertex → start + count ≤ number
      → ways_in vertex (hydrogen_edges number (carried start count)) ≡ []
  beyond_ways vertex start zero number le low = refl
  beyond_ways vertex start (suc count) number le low =
      let more = before_more f start count in
      turn vertex start count number
      ∙ ap (λ ws. ws ++ ways_in vertex (hydrogen_edges (number + f start) (carried (start + 1) count)))
      (no_ways start vertex (λ e. absurd (omega (arith, e, le, low))) (f start) number (inr (omega (arith, le, more))))
      ∙ beyond_ways vertex (start + 1) count (number + f start) (omega (arith, le, more)) (omega (arith, low))
