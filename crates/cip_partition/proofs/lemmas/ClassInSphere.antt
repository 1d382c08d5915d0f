-- One class of a sphere split: the other classes are unchanged, and compare with it as they did.
use Rattle.std.proofs.Common.{◌≡◌, ◌≢◌, ◌<◌, ◌≤◌, ◌+◌, ◌-◌, ◌==◌, ◌&&◌, ℕ, zero, suc, true, false, List, nat_lt, slice_index, sym, ap, ◌∙◌, subst, arith, inl, inr}
use Rattle.std.proofs.lemmas.Bool.Decides.{nat_tests}
use Rattle.std.specs.declared.cmp.Ordering.{Ordering}
use Rattle.std.specs.Ordering.{nat_cmp, ordering_reverse}
use Rattle.std.proofs.lemmas.Bool.{cases_lt, cases_order}
use Rattle.std.proofs.lemmas.Cmp.{nat_cmp_total}
use Rattle.cip_rank.specs.Ranking.{by_number}
use Rattle.cip_rank.proofs.lemmas.NumberedNodes.{less_is, greater_is}
use Rattle.cip_partition.specs.Parting.{PartsRows, IsClass, is_class_start}
use Rattle.cip_partition.specs.Rows.{IsRow, number_in, AreClassed}
use Rattle.cip_partition.proofs.lemmas.Cases.{cases_same, not_both}

-- what the test of a class that goes on asks for
requested : (n next to : ℕ) → n + 1 < to → next ≡ n → (nat_lt (n + 1) to && (next == n)) ≡ true
requested n next to lt same = grind (arith, nat_tests)

pub shared_tells : (n next to : ℕ) → (nat_lt (n + 1) to && (next == n)) ≡ true → (n + 1 < to) × (next ≡ n)
shared_tells n next to shared = (grind (arith, nat_tests), grind (arith, nat_tests))

module _ (rows numbers : List ℕ) (from to : ℕ) (classed : AreClassed rows numbers from to) where
  abbrev num : ℕ → ℕ
  num = number_in rows numbers

  record Heads (k : ℕ) : Type 0 where
    low : from ≤ num k
    high : num k ≤ k
    head : num (num k) ≡ num k

  heads_on : (more : ℕ) → from + more < to → Heads (from + more)
  heads_on zero lt =
      let none : from + 0 ≡ from = omega arith in
      let is : num from ≡ from = classed.head (omega (arith, lt)) in
      subst Heads (sym none) (record { low = omega (arith, is); high = omega (arith, is); head = ap num is })
  heads_on (suc more) lt =
      let before = heads_on more (omega arith) in
      let place : from + suc more ≡ (from + more) + 1 = omega arith in
      subst Heads (sym place) (elim (classed.next (from + more) (omega arith) (omega (arith, lt))) [
        | inl alike ↦ record {
          low = let le = before.low in omega (arith, alike, le);
          high = let le = before.high in omega (arith, alike, le);
          head = ap num alike ∙ before.head ∙ sym alike;
        }
        | inr begins ↦ record { low = omega (arith, begins); high = omega (arith, begins); head = ap num begins }
      ])

  heads : (k : ℕ) → from ≤ k → k < to → Heads k
  heads k low high = let place : from + (k - from) ≡ k = omega (arith, low) in
      subst Heads place (heads_on (k - from) (omega (arith, low, high)))

  pub num_low : (k : ℕ) → from ≤ k → k < to → from ≤ num k
  num_low k low high = (heads k low high).low

  pub num_high : (k : ℕ) → from ≤ k → k < to → num k ≤ k
  num_high k low high = (heads k low high).high

  pub num_head : (k : ℕ) → from ≤ k → k < to → num (num k) ≡ num k
  num_head k low high = (heads k low high).head

  rises_on : (i more : ℕ) → from ≤ i → i + more < to → num i ≤ num (i + more)
  rises_on i zero low lt = let none : i + 0 ≡ i = omega arith in subst (λ n. num i ≤ num n) (sym none) (omega arith)
  rises_on i (suc more) low lt =
      let before = rises_on i more low (omega arith) in
      let place : i + suc more ≡ (i + more) + 1 = omega arith in
      subst (λ n. num i ≤ num n) (sym place) (elim (classed.next (i + more) (omega (arith, low)) (omega (arith, lt))) [
        | inl alike ↦ omega (arith, alike, before)
        | inr begins ↦
            let le = num_high i low (omega (arith, lt)) in omega (arith, begins, le)
      ])

  pub rises : (i j : ℕ) → from ≤ i → i ≤ j → j < to → num i ≤ num j
  rises i j low le lt = let place : i + (j - i) ≡ j = omega (arith, le) in
      subst (λ n. num i ≤ num n) place (rises_on i (j - i) low (omega (arith, le, lt)))

  -- the number of a place is a row of the sphere at which a class begins
  pub place_low : (place : ℕ) → IsRow rows from to place → from ≤ slice_index numbers place
  place_low place is = subst (λ p. from ≤ slice_index numbers p) is.here (num_low is.row is.low is.high)

  pub place_high : (place : ℕ) → IsRow rows from to place → slice_index numbers place < to
  place_high place is = subst (λ p. slice_index numbers p < to) is.here
      (let le = num_high is.row is.low is.high in let lt = is.high in omega (arith, le, lt))

  pub place_head : (place : ℕ) → IsRow rows from to place → num (slice_index numbers place) ≡ slice_index numbers place
  place_head place is = subst (λ p. num (slice_index numbers p) ≡ slice_index numbers p) is.here
      (num_head is.row is.low is.high)

  -- a class that doesn't go on has one place
  pub alone : (place : ℕ) → IsRow rows from to place → is_class_start rows numbers (slice_index numbers place) to ≡ false
      → slice_index rows (slice_index numbers place) ≡ place
  alone place p single =
      let n = slice_index numbers place in
      let number : num p.row ≡ n = ap (slice_index numbers) p.here in
      let le = num_high p.row p.low p.high in
      elim (cases_order n p.row) [
        | inl same ↦ ap (slice_index rows) same ∙ p.here
        | inr (inl below) ↦
            let high = p.high in
            let low = place_low place p in
            let head = place_head place p in
            let parent_place = rises n (n + 1) low (omega arith) (omega (arith, below, high)) in
            let down = rises (n + 1) p.row (omega (arith, low)) (omega (arith, below)) p.high in
            let next : num (n + 1) ≡ n = omega (arith, head, parent_place, down, number) in
            absurd (not_both (is_class_start rows numbers n to) (requested n (num (n + 1)) to (omega (arith, below, high)) next)
            single)
        | inr (inr above) ↦ absurd (omega (arith, above, number, le))
      ]

  pub one_place : (a b : ℕ) → IsRow rows from to a → IsRow rows from to b
      → slice_index numbers a ≡ slice_index numbers b → is_class_start rows numbers (slice_index numbers a) to ≡ false
      → a ≡ b
  one_place a b p q same single = sym (alone a p single) ∙ ap (slice_index rows) same
      ∙ alone b q (ap (λ n. is_class_start rows numbers n to) (sym same) ∙ single)

module _ (rows numbers : List ℕ) (from to : ℕ) (classed : AreClassed rows numbers from to) where
  module _ (first past : ℕ) (class : IsClass rows numbers from to first past) where
    -- no class begins inside of one
    pub none_inside : (place : ℕ) → IsRow rows from to place → first < slice_index numbers place
        → past ≤ slice_index numbers place
    none_inside place is above = elim (cases_lt (slice_index numbers place) past) [
      | inr beyond ↦ beyond
      | inl inside ↦ let head = place_head rows numbers from to classed place is in
          let same = class.each (slice_index numbers place) (omega (arith, above)) inside in
          absurd (omega (arith, head, same, above))
    ]

    -- a place with the number of the class is in its rows
    pub in_class : (place : ℕ) → IsRow rows from to place → slice_index numbers place ≡ first
        → IsRow rows first past place
    in_class place is e =
        let number : number_in rows numbers is.row ≡ first = ap (slice_index numbers) is.here ∙ e in
        let le = num_high rows numbers from to classed is.row is.low is.high in
        elim (cases_lt is.row past) [
          | inl inside ↦ record { row = is.row; low = omega (arith, number, le); high = inside; here = is.here }
          | inr beyond ↦
              let row_high = is.high in
              let begins = class.ends (omega (arith, beyond, row_high)) in
              let parent_place = rises rows numbers from to classed past is.row (let f = class.low in let s = class.some in omega (arith, f, s)) beyond is.high
              in let s = class.some in
              absurd (omega (arith, begins, parent_place, number, s))
        ]

    module _ (compare : ℕ → ℕ → Ordering) (new_rows new : List ℕ)
        (parts : PartsRows compare first past rows new_rows numbers new) where
      -- a place of another class keeps its number
      pub outside : (place : ℕ) → slice_index numbers place ≢ first → slice_index new place ≡ slice_index numbers place
      outside place apart = parts.others place (λ k low high e. apart (ap (slice_index numbers) (sym e)
          ∙ class.each k low high))

      abbrev mid : ℕ → ℕ
      mid = number_in new_rows new

      new_row : (place : ℕ) → IsRow rows from to place → slice_index numbers place ≡ first
          → IsRow new_rows first past place
      new_row place is e =
          let was = in_class place is e in
          subst (IsRow new_rows first past) was.here (parts.back was.row was.low was.high)

      pub inside : (a b : ℕ) → IsRow rows from to a → IsRow rows from to b → slice_index numbers a ≡ first
          → slice_index numbers b ≡ first → by_number new a b ≡ compare a b
      inside a b is_a is_b e f =
          let at_a = new_row a is_a e in
          let at_b = new_row b is_b f in
          subst (λ p. by_number new p b ≡ compare p b) at_a.here
          (subst (λ p. by_number new (slice_index new_rows at_a.row) p ≡ compare (slice_index new_rows at_a.row) p)
          at_b.here (parts.ordered at_a.row at_b.row at_a.low at_a.high at_b.low at_b.high))

      within : (place : ℕ) → IsRow rows from to place → slice_index numbers place ≡ first
          → (first ≤ slice_index new place) × (slice_index new place < past)
      within place is e =
          let at = new_row place is e in
          subst (λ p. (first ≤ slice_index new p) × (slice_index new p < past)) at.here (
            num_low new_rows new first past parts.classed at.row at.low at.high,
            (let le = num_high new_rows new first past parts.classed at.row at.low at.high in let lt = at.high in
                omega (arith, le, lt)),
          )

      pub apart : (a b : ℕ) → IsRow rows from to a → IsRow rows from to b
          → slice_index numbers a ≢ slice_index numbers b → by_number new a b ≡ by_number numbers a b
      apart a b is_a is_b differ = elim (cases_same (slice_index numbers a) first) [
        | inl of_a ↦
            let not_b : slice_index numbers b ≢ first = λ e. differ (of_a ∙ sym e) in
            one_apart a b is_a is_b of_a not_b
        | inr not_a ↦ elim (cases_same (slice_index numbers b) first) [
          | inl of_b ↦
              nat_cmp_total.antisymm (slice_index new a) (slice_index new b)
              ∙ ap ordering_reverse (one_apart b a is_b is_a of_b not_a)
              ∙ sym (nat_cmp_total.antisymm (slice_index numbers a) (slice_index numbers b))
          | inr not_b ↦
              ap (λ n. nat_cmp n (slice_index new b)) (outside a not_a)
              ∙ ap (nat_cmp (slice_index numbers a)) (outside b not_b)
        ]
      ]
        where
          one_apart : (a b : ℕ) → IsRow rows from to a → IsRow rows from to b → slice_index numbers a ≡ first
              → slice_index numbers b ≢ first → by_number new a b ≡ by_number numbers a b
          one_apart a b is_a is_b of_a not_b =
              let range = within a is_a of_a in
              let same = outside b not_b in
              elim (cases_order (slice_index numbers b) first) [
                | inl e ↦ absurd (not_b e)
                | inr (inl below) ↦
                    let low = range.0 in
                    greater_is (slice_index new a) (slice_index new b) (omega (arith, low, same, below))
                    ∙ sym (greater_is (slice_index numbers a) (slice_index numbers b) (omega (arith, of_a, below)))
                | inr (inr above) ↦
                    let high = range.1 in
                    let beyond = none_inside b is_b above in
                    less_is (slice_index new a) (slice_index new b) (omega (arith, high, same, beyond))
                    ∙ sym (less_is (slice_index numbers a) (slice_index numbers b) (omega (arith, of_a, above)))
              ]

      -- places of the sphere stay in it
      pub there : (place : ℕ) → IsRow new_rows from to place → IsRow rows from to place
      there place is = elim (cases_lt is.row first) [
        | inl before ↦ record {
          row = is.row;
          low = is.low;
          high = is.high;
          here = sym (parts.kept.before is.row before)
              ∙ is.here;
        }
        | inr low ↦ elim (cases_lt is.row past) [
          | inl high ↦
              let was = parts.there is.row low high in
              record {
                row = was.row;
                low = let f = class.low in let l = was.low in omega (arith, f, l);
                high = let p = class.high in let h = was.high in omega (arith, p, h);
                here = was.here ∙ is.here;
              }
          | inr behind ↦ record {
            row = is.row;
            low = is.low;
            high = is.high;
            here = sym (parts.kept.behind is.row
                behind) ∙ is.here;
          }
        ]
      ]

      pub back : (place : ℕ) → IsRow rows from to place → IsRow new_rows from to place
      back place is = elim (cases_lt is.row first) [
        | inl before ↦ record {
          row = is.row;
          low = is.low;
          high = is.high;
          here = parts.kept.before is.row before
              ∙ is.here;
        }
        | inr low ↦ elim (cases_lt is.row past) [
          | inl high ↦
              let was = parts.back is.row low high in
              record {
                row = was.row;
                low = let f = class.low in let l = was.low in omega (arith, f, l);
                high = let p = class.high in let h = was.high in omega (arith, p, h);
                here = was.here ∙ is.here;
              }
          | inr behind ↦ record {
            row = is.row;
            low = is.low;
            high = is.high;
            here = parts.kept.behind is.row behind
                ∙ is.here;
          }
        ]
      ]

      before_same : (k : ℕ) → from ≤ k → k < first → mid k ≡ number_in rows numbers k
      before_same k low high =
          let f = class.some in let p = class.high in
          let le = num_high rows numbers from to classed k low (omega (arith, high, f, p)) in
          ap (slice_index new) (parts.kept.before k high)
          ∙ outside (slice_index rows k) (λ e. absurd (omega (arith, e, le, high)))

      behind_same : (k : ℕ) → past ≤ k → k < to → mid k ≡ number_in rows numbers k
      behind_same k low high =
          let begins = class.ends (omega (arith, low, high)) in
          let f = class.low in let s = class.some in
          let parent_place = rises rows numbers from to classed past k (omega (arith, f, s)) low high in
          ap (slice_index new) (parts.kept.behind k low)
          ∙ outside (slice_index rows k) (λ e. absurd (omega (arith, e, begins, parent_place, s)))

      pub still_classed : AreClassed new_rows new from to
      still_classed = record {
        head = λ some. elim (cases_lt from first) [
          | inl before ↦ before_same from (omega arith) before ∙ classed.head some
          | inr at ↦ let low = class.low in let here : first ≡ from = omega (arith, at, low) in
              subst (λ k. mid k ≡ k) here (parts.classed.head class.some)
        ];
        next = λ row low high. elim (cases_lt (row + 1) first) [
          | inl before ↦ elim (classed.next row low high) [
            | inl alike ↦ inl (before_same (row + 1) (omega (arith, low)) before ∙ alike
                ∙ sym (before_same row low (omega (arith, before))))
            | inr begins ↦ inr (before_same (row + 1) (omega (arith, low)) before ∙ begins)
          ]
          | inr on ↦ elim (cases_lt row first) [
            | inl at ↦ let here : first ≡ row + 1 = omega (arith, on, at) in
                inr (subst (λ k. mid k ≡ k) here (parts.classed.head class.some))
            | inr from_first ↦ elim (cases_lt (row + 1) past) [
              | inl in_class ↦ parts.classed.next row from_first in_class
              | inr beyond ↦ elim (cases_lt row past) [
                | inl at ↦ let here : past ≡ row + 1 = omega (arith, beyond, at) in
                    inr (subst (λ k. mid k ≡ k) here (behind_same past (omega arith) (omega (arith, here, high))
                    ∙ class.ends (omega (arith, here, high))))
                | inr behind ↦ elim (classed.next row low high) [
                  | inl alike ↦ inl (behind_same (row + 1) beyond high ∙ alike
                      ∙ sym (behind_same row behind (omega (arith, high))))
                  | inr begins ↦ inr (behind_same (row + 1) beyond high ∙ begins)
                ]
              ]
            ]
          ]
        ];
      }
