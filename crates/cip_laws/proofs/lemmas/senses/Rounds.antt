-- The places of three and of four directions, by the orders of three of them. Plane geometry.
use Rattle.std.proofs.Common.{◌≡◌, ◌⊎◌, ◌+◌, ◌<◌, ℕ, inl, inr, arith, refl, sym, ◌∙◌, ap, List, [], ◌∷◌, length, Bool, true, false, cond}
use Rattle.std.specs.Prelude.{not, count_by, ◌≢◌}
use Rattle.cip_num.proofs.lemmas.Counting.{count_cons}
use Rattle.cip_num.specs.declared.plane.Vec2.{Vec2}
use Rattle.cip_num.specs.Around.{has_coincident, direction_at, precedes, place, places}
use Rattle.cip_num.proofs.lemmas.Clashes.{has_length, are_apart}
use Rattle.cip_num.proofs.lemmas.StrictOrder.{met, precedes_trans, precedes_total, not_before_itself, not_both_before}
use Rattle.cip_num.proofs.lemmas.Rotation.{order_turns}
use Rattle.cip_num.proofs.lemmas.Places.{is_false, nothing_before}

one_of_two : (p q : Bool) → (p ≡ true) ⊎ (q ≡ true) → (p ≡ true → q ≡ true → ⊥) → q ≡ not p
one_of_two true true s n = absurd (n refl refl)
one_of_two true false s n = refl
one_of_two false true s n = refl
one_of_two false false (inl e) n = absurd cc
one_of_two false false (inr e) n = absurd cc

-- turning from one direction, by its number, another is met before a third
unfoldable pub meets : List Vec2 → ℕ → ℕ → ℕ → Bool
meets ds i j k = precedes (direction_at ds i) (direction_at ds j) (direction_at ds k)

module _ (ds : List Vec2) (clear : has_coincident ds ≡ false) where
  pub never_itself : (i j : ℕ) → meets ds i j j ≡ false
  unfolding meets
  never_itself i j = is_false _ (not_before_itself (direction_at ds i) (direction_at ds j))

  pub never_before_first : (i j : ℕ) → meets ds i j i ≡ false
  unfolding meets
  never_before_first i j = is_false _ (λ e. nothing_before (direction_at ds i) (direction_at ds j) (met (direction_at ds i) (direction_at ds j) (direction_at ds i) e))

  pub meets_back : (i j k : ℕ) → i < length ds → j < length ds → k < length ds → j ≢ k → meets ds i k j ≡ not (meets ds i j k)
  unfolding meets
  meets_back i j k il jl kl jk =
      one_of_two _ _
      (precedes_total (direction_at ds i) (direction_at ds j) (direction_at ds k) (has_length ds i clear il) (has_length ds j clear jl) (has_length ds k clear kl) (are_apart ds j k clear jl kl jk))
      (not_both_before (direction_at ds i) (direction_at ds j) (direction_at ds k) (has_length ds i clear il))

  pub first_met : (i j : ℕ) → i < length ds → j < length ds → i ≢ j → meets ds i i j ≡ true
  first_met i j il jl ij = meets_back i j i il jl il (λ e. ij (sym e)) ∙ ap not (never_before_first i j)

  pub meets_on : (i j k l : ℕ) → i < length ds → meets ds i j k ≡ true → meets ds i k l ≡ true → meets ds i j l ≡ true
  unfolding meets
  meets_on i j k l il = precedes_trans (direction_at ds i) (direction_at ds j) (direction_at ds k) (direction_at ds l) (has_length ds i clear il)

  module _ (i j k : ℕ) (il : i < length ds) (jl : j < length ds) (kl : k < length ds) (ij : i ≢ j) (ik : i ≢ k) (jk : j ≢ k) where
    once : meets ds i j k ≡ true → meets ds j k i ≡ true
    unfolding meets
    once =
        order_turns (direction_at ds i) (direction_at ds j) (direction_at ds k) (has_length ds i clear il) (has_length ds j clear jl) (has_length ds k clear kl)
        (are_apart ds i j clear il jl ij) (are_apart ds i k clear il kl ik) (are_apart ds j k clear jl kl jk)

  -- the order of three is the same from whichever of them it is seen
  pub meets_turned : (i j k : ℕ) → i < length ds → j < length ds → k < length ds → i ≢ j → i ≢ k → j ≢ k → meets ds j k i ≡ meets ds i j k
  meets_turned i j k il jl kl ij ik jk = by (meets ds i j k) refl
    where
      by : (m : Bool) → meets ds i j k ≡ m → meets ds j k i ≡ m
      by true e = once i j k il jl kl ij ik jk e
      by false e =
          let back : meets ds i k j ≡ true = meets_back i j k il jl kl jk ∙ ap not e in
          let next : meets ds k j i ≡ true = once i k j il kl jl ik ij (λ e. jk (sym e)) back in
          let last : meets ds j i k ≡ true = once k j i kl jl il (λ e. jk (sym e)) (λ e. ik (sym e)) (λ e. ij (sym e)) next in
          meets_back j i k jl il kl ik ∙ ap not last

count_three : {X : Type 0} (p : X → Bool) (a b c : X) → count_by p (a ∷ b ∷ c ∷ []) ≡ cond (p a) 1 0 + (cond (p b) 1 0 + (cond (p c) 1 0 + 0))
count_three p a b c = rw (count_cons p a (b ∷ c ∷ []), count_cons p b (c ∷ []), count_cons p c [])

count_four : {X : Type 0} (p : X → Bool) (a b c d : X) → count_by p (a ∷ b ∷ c ∷ d ∷ []) ≡ cond (p a) 1 0 + (cond (p b) 1 0 + (cond (p c) 1 0 + (cond (p d) 1 0 + 0)))
count_four p a b c d = rw (count_cons p a (b ∷ c ∷ d ∷ []), count_cons p b (c ∷ d ∷ []), count_cons p c (d ∷ []), count_cons p d [])

-- by whether the second is met before the third
abbrev pub three_places : Bool → List ℕ
three_places x = 0 ∷ (1 + (0 + (cond (not x) 1 0 + 0))) ∷ (1 + (cond x 1 0 + (0 + 0))) ∷ []

-- by whether the second is met before the third and the fourth, and the third before the fourth
abbrev pub four_places : Bool → Bool → Bool → List ℕ
four_places x y z =
    0
    ∷ (1 + (0 + (cond (not x) 1 0 + (cond (not y) 1 0 + 0))))
    ∷ (1 + (cond x 1 0 + (0 + (cond (not z) 1 0 + 0))))
    ∷ (1 + (cond y 1 0 + (cond z 1 0 + (0 + 0))))
    ∷ []

module _ (a b c : Vec2) where
  place_of_three : (j : ℕ) (p q r : Bool) → meets (a ∷ b ∷ c ∷ []) 0 0 j ≡ p → meets (a ∷ b ∷ c ∷ []) 0 1 j ≡ q → meets (a ∷ b ∷ c ∷ []) 0 2 j ≡ r →
      place (a ∷ b ∷ c ∷ []) (direction_at (a ∷ b ∷ c ∷ []) j) ≡ cond p 1 0 + (cond q 1 0 + (cond r 1 0 + 0))
  unfolding meets
  place_of_three j p q r e f g =
      count_three (λ other. precedes a other (direction_at (a ∷ b ∷ c ∷ []) j)) a b c
      ∙ ap (λ n. cond n 1 0 + (cond (precedes a b (direction_at (a ∷ b ∷ c ∷ []) j)) 1 0 + (cond (precedes a c (direction_at (a ∷ b ∷ c ∷ []) j)) 1 0 + 0))) e
      ∙ ap (λ n. cond p 1 0 + (cond n 1 0 + (cond (precedes a c (direction_at (a ∷ b ∷ c ∷ []) j)) 1 0 + 0))) f
      ∙ ap (λ n. cond p 1 0 + (cond q 1 0 + (cond n 1 0 + 0))) g

  pub places_of_three : has_coincident (a ∷ b ∷ c ∷ []) ≡ false → places (a ∷ b ∷ c ∷ []) ≡ three_places (meets (a ∷ b ∷ c ∷ []) 0 1 2)
  places_of_three clear =
      let ds : List Vec2 = a ∷ b ∷ c ∷ [] in
      ap (λ n. n ∷ place ds b ∷ place ds c ∷ []) (place_of_three 0 false false false (never_itself ds clear 0 0) (never_before_first ds clear 0 1) (never_before_first ds clear 0 2))
      ∙ ap (λ n. 0 ∷ n ∷ place ds c ∷ []) (place_of_three 1 true false _ (first_met ds clear 0 1 (omega arith) (omega arith) (λ e. omega arith)) (never_itself ds clear 0 1) (meets_back ds clear 0 1 2 (omega arith) (omega arith) (omega arith) (λ e. omega arith)))
      ∙ ap (λ n. 0 ∷ (1 + (0 + (cond (not (meets ds 0 1 2)) 1 0 + 0))) ∷ n ∷ []) (place_of_three 2 true _ false (first_met ds clear 0 2 (omega arith) (omega arith) (λ e. omega arith)) refl (never_itself ds clear 0 2))

module _ (a b c d : Vec2) where
  place_of_four : (j : ℕ) (p q r s : Bool) → meets (a ∷ b ∷ c ∷ d ∷ []) 0 0 j ≡ p → meets (a ∷ b ∷ c ∷ d ∷ []) 0 1 j ≡ q → meets (a ∷ b ∷ c ∷ d ∷ []) 0 2 j ≡ r → meets (a ∷ b ∷ c ∷ d ∷ []) 0 3 j ≡ s →
      place (a ∷ b ∷ c ∷ d ∷ []) (direction_at (a ∷ b ∷ c ∷ d ∷ []) j) ≡ cond p 1 0 + (cond q 1 0 + (cond r 1 0 + (cond s 1 0 + 0)))
  unfolding meets
  place_of_four j p q r s e f g h =
      count_four (λ other. precedes a other (direction_at (a ∷ b ∷ c ∷ d ∷ []) j)) a b c d
      ∙ ap (λ n. cond n 1 0 + (cond (precedes a b (direction_at (a ∷ b ∷ c ∷ d ∷ []) j)) 1 0 + (cond (precedes a c (direction_at (a ∷ b ∷ c ∷ d ∷ []) j)) 1 0 + (cond (precedes a d (direction_at (a ∷ b ∷ c ∷ d ∷ []) j)) 1 0 + 0)))) e
      ∙ ap (λ n. cond p 1 0 + (cond n 1 0 + (cond (precedes a c (direction_at (a ∷ b ∷ c ∷ d ∷ []) j)) 1 0 + (cond (precedes a d (direction_at (a ∷ b ∷ c ∷ d ∷ []) j)) 1 0 + 0)))) f
      ∙ ap (λ n. cond p 1 0 + (cond q 1 0 + (cond n 1 0 + (cond (precedes a d (direction_at (a ∷ b ∷ c ∷ d ∷ []) j)) 1 0 + 0)))) g
      ∙ ap (λ n. cond p 1 0 + (cond q 1 0 + (cond r 1 0 + (cond n 1 0 + 0)))) h

  pub places_of_four : has_coincident (a ∷ b ∷ c ∷ d ∷ []) ≡ false → places (a ∷ b ∷ c ∷ d ∷ []) ≡ four_places (meets (a ∷ b ∷ c ∷ d ∷ []) 0 1 2) (meets (a ∷ b ∷ c ∷ d ∷ []) 0 1 3) (meets (a ∷ b ∷ c ∷ d ∷ []) 0 2 3)
  places_of_four clear =
      let ds : List Vec2 = a ∷ b ∷ c ∷ d ∷ [] in
      ap (λ n. n ∷ place ds b ∷ place ds c ∷ place ds d ∷ []) (place_of_four 0 false false false false (never_itself ds clear 0 0) (never_before_first ds clear 0 1) (never_before_first ds clear 0 2) (never_before_first ds clear 0 3))
      ∙ ap (λ n. 0 ∷ n ∷ place ds c ∷ place ds d ∷ [])
      (place_of_four 1 true false _ _ (first_met ds clear 0 1 (omega arith) (omega arith) (λ e. omega arith)) (never_itself ds clear 0 1) (meets_back ds clear 0 1 2 (omega arith) (omega arith) (omega arith) (λ e. omega arith)) (meets_back ds clear 0 1 3 (omega arith) (omega arith) (omega arith) (λ e. omega arith)))
      ∙ ap (λ n. 0 ∷ (1 + (0 + (cond (not (meets ds 0 1 2)) 1 0 + (cond (not (meets ds 0 1 3)) 1 0 + 0)))) ∷ n ∷ place ds d ∷ [])
      (place_of_four 2 true _ false _ (first_met ds clear 0 2 (omega arith) (omega arith) (λ e. omega arith)) refl (never_itself ds clear 0 2) (meets_back ds clear 0 2 3 (omega arith) (omega arith) (omega arith) (λ e. omega arith)))
      ∙ ap (λ n. 0 ∷ (1 + (0 + (cond (not (meets ds 0 1 2)) 1 0 + (cond (not (meets ds 0 1 3)) 1 0 + 0)))) ∷ (1 + (cond (meets ds 0 1 2) 1 0 + (0 + (cond (not (meets ds 0 2 3)) 1 0 + 0)))) ∷ n ∷ [])
      (place_of_four 3 true _ _ false (first_met ds clear 0 3 (omega arith) (omega arith) (λ e. omega arith)) refl refl (never_itself ds clear 0 3))
