-- The six orders of four directions around a point. Plane geometry.
use Rattle.std.proofs.Common.{◌≡◌, ◌<◌, ℕ, arith, refl, sym, ◌∙◌, ap, [], ◌∷◌, Bool, true, false}
use Rattle.std.specs.Prelude.{not, ◌≢◌}
use Rattle.cip_num.specs.declared.plane.Vec2.{Vec2}
use Rattle.cip_num.specs.Around.{has_coincident}
use Rattle.cip_laws.proofs.lemmas.senses.Rounds.{meets, meets_back, meets_on, meets_turned}

-- Numbered from 0, by whether, turning from 0, 1 is met before 2 and before 3, and 2 before 3, and whether, turning from
-- 1, 2 is met before 3.
pub data Round : Bool → Bool → Bool → Bool → Type 0 where
  as_numbered : Round true true true true
  last_before_third : Round true true false false
  last_before_second : Round true false false true
  third_before_second : Round false true true false
  second_behind_both : Round false false true true
  backwards : Round false false false false

-- what is met before another, and that before a third, is met before this
record Goes (x y z w : Bool) : Type 0 where
  from_0 : x ≡ true → z ≡ true → y ≡ true
  back_0 : not z ≡ true → not x ≡ true → not y ≡ true
  from_1 : w ≡ true → y ≡ true → x ≡ true
  back_1 : not y ≡ true → not w ≡ true → not x ≡ true
  from_2 : z ≡ true → x ≡ true → w ≡ true
  back_2 : not x ≡ true → not z ≡ true → not w ≡ true
  from_3 : y ≡ true → w ≡ true → z ≡ true
  back_3 : not w ≡ true → not y ≡ true → not z ≡ true

round : (x y z w : Bool) → Goes x y z w → Round x y z w
round true true true true g = as_numbered
round true true true false g = absurd (let e = g.from_2 refl refl in cc)
round true true false true g = absurd (let e = g.from_3 refl refl in cc)
round true true false false g = last_before_third
round true false true w g = absurd (let e = g.from_0 refl refl in cc)
round true false false true g = last_before_second
round true false false false g = absurd (let e = g.back_1 refl refl in cc)
round false true true true g = absurd (let e = g.from_1 refl refl in cc)
round false true true false g = third_before_second
round false true false w g = absurd (let e = g.back_0 refl refl in cc)
round false false true true g = second_behind_both
round false false true false g = absurd (let e = g.back_3 refl refl in cc)
round false false false true g = absurd (let e = g.back_2 refl refl in cc)
round false false false false g = backwards

module _ (a b c d : Vec2) (clear : has_coincident (a ∷ b ∷ c ∷ d ∷ []) ≡ false) where
  turn : (i j k : ℕ) → i < 4 → j < 4 → k < 4 → i ≢ j → i ≢ k → j ≢ k → meets (a ∷ b ∷ c ∷ d ∷ []) j k i ≡ meets (a ∷ b ∷ c ∷ d ∷ []) i j k
  turn i j k il jl kl = meets_turned (a ∷ b ∷ c ∷ d ∷ []) clear i j k (omega arith) (omega arith) (omega arith)

  back : (i j k : ℕ) → i < 4 → j < 4 → k < 4 → j ≢ k → meets (a ∷ b ∷ c ∷ d ∷ []) i k j ≡ not (meets (a ∷ b ∷ c ∷ d ∷ []) i j k)
  back i j k il jl kl = meets_back (a ∷ b ∷ c ∷ d ∷ []) clear i j k (omega arith) (omega arith) (omega arith)

  go : (i j k l : ℕ) → i < 4 → meets (a ∷ b ∷ c ∷ d ∷ []) i j k ≡ true → meets (a ∷ b ∷ c ∷ d ∷ []) i k l ≡ true → meets (a ∷ b ∷ c ∷ d ∷ []) i j l ≡ true
  go i j k l il = meets_on (a ∷ b ∷ c ∷ d ∷ []) clear i j k l (omega arith)

  m120 : meets (a ∷ b ∷ c ∷ d ∷ []) 1 2 0 ≡ meets (a ∷ b ∷ c ∷ d ∷ []) 0 1 2
  m120 = turn 0 1 2 (omega arith) (omega arith) (omega arith) (λ e. omega arith) (λ e. omega arith) (λ e. omega arith)

  m130 : meets (a ∷ b ∷ c ∷ d ∷ []) 1 3 0 ≡ meets (a ∷ b ∷ c ∷ d ∷ []) 0 1 3
  m130 = turn 0 1 3 (omega arith) (omega arith) (omega arith) (λ e. omega arith) (λ e. omega arith) (λ e. omega arith)

  m230 : meets (a ∷ b ∷ c ∷ d ∷ []) 2 3 0 ≡ meets (a ∷ b ∷ c ∷ d ∷ []) 0 2 3
  m230 = turn 0 2 3 (omega arith) (omega arith) (omega arith) (λ e. omega arith) (λ e. omega arith) (λ e. omega arith)

  m231 : meets (a ∷ b ∷ c ∷ d ∷ []) 2 3 1 ≡ meets (a ∷ b ∷ c ∷ d ∷ []) 1 2 3
  m231 = turn 1 2 3 (omega arith) (omega arith) (omega arith) (λ e. omega arith) (λ e. omega arith) (λ e. omega arith)

  m201 : meets (a ∷ b ∷ c ∷ d ∷ []) 2 0 1 ≡ meets (a ∷ b ∷ c ∷ d ∷ []) 0 1 2
  m201 = turn 1 2 0 (omega arith) (omega arith) (omega arith) (λ e. omega arith) (λ e. omega arith) (λ e. omega arith) ∙ m120

  m301 : meets (a ∷ b ∷ c ∷ d ∷ []) 3 0 1 ≡ meets (a ∷ b ∷ c ∷ d ∷ []) 0 1 3
  m301 = turn 1 3 0 (omega arith) (omega arith) (omega arith) (λ e. omega arith) (λ e. omega arith) (λ e. omega arith) ∙ m130

  m302 : meets (a ∷ b ∷ c ∷ d ∷ []) 3 0 2 ≡ meets (a ∷ b ∷ c ∷ d ∷ []) 0 2 3
  m302 = turn 2 3 0 (omega arith) (omega arith) (omega arith) (λ e. omega arith) (λ e. omega arith) (λ e. omega arith) ∙ m230

  m312 : meets (a ∷ b ∷ c ∷ d ∷ []) 3 1 2 ≡ meets (a ∷ b ∷ c ∷ d ∷ []) 1 2 3
  m312 = turn 2 3 1 (omega arith) (omega arith) (omega arith) (λ e. omega arith) (λ e. omega arith) (λ e. omega arith) ∙ m231

  pub n021 : meets (a ∷ b ∷ c ∷ d ∷ []) 0 2 1 ≡ not (meets (a ∷ b ∷ c ∷ d ∷ []) 0 1 2)
  n021 = back 0 1 2 (omega arith) (omega arith) (omega arith) (λ e. omega arith)

  n031 : meets (a ∷ b ∷ c ∷ d ∷ []) 0 3 1 ≡ not (meets (a ∷ b ∷ c ∷ d ∷ []) 0 1 3)
  n031 = back 0 1 3 (omega arith) (omega arith) (omega arith) (λ e. omega arith)

  pub n032 : meets (a ∷ b ∷ c ∷ d ∷ []) 0 3 2 ≡ not (meets (a ∷ b ∷ c ∷ d ∷ []) 0 2 3)
  n032 = back 0 2 3 (omega arith) (omega arith) (omega arith) (λ e. omega arith)

  pub n102 : meets (a ∷ b ∷ c ∷ d ∷ []) 1 0 2 ≡ not (meets (a ∷ b ∷ c ∷ d ∷ []) 0 1 2)
  n102 = back 1 2 0 (omega arith) (omega arith) (omega arith) (λ e. omega arith) ∙ ap not m120

  pub n103 : meets (a ∷ b ∷ c ∷ d ∷ []) 1 0 3 ≡ not (meets (a ∷ b ∷ c ∷ d ∷ []) 0 1 3)
  n103 = back 1 3 0 (omega arith) (omega arith) (omega arith) (λ e. omega arith) ∙ ap not m130

  n132 : meets (a ∷ b ∷ c ∷ d ∷ []) 1 3 2 ≡ not (meets (a ∷ b ∷ c ∷ d ∷ []) 1 2 3)
  n132 = back 1 2 3 (omega arith) (omega arith) (omega arith) (λ e. omega arith)

  n210 : meets (a ∷ b ∷ c ∷ d ∷ []) 2 1 0 ≡ not (meets (a ∷ b ∷ c ∷ d ∷ []) 0 1 2)
  n210 = back 2 0 1 (omega arith) (omega arith) (omega arith) (λ e. omega arith) ∙ ap not m201

  n203 : meets (a ∷ b ∷ c ∷ d ∷ []) 2 0 3 ≡ not (meets (a ∷ b ∷ c ∷ d ∷ []) 0 2 3)
  n203 = back 2 3 0 (omega arith) (omega arith) (omega arith) (λ e. omega arith) ∙ ap not m230

  n213 : meets (a ∷ b ∷ c ∷ d ∷ []) 2 1 3 ≡ not (meets (a ∷ b ∷ c ∷ d ∷ []) 1 2 3)
  n213 = back 2 3 1 (omega arith) (omega arith) (omega arith) (λ e. omega arith) ∙ ap not m231

  n310 : meets (a ∷ b ∷ c ∷ d ∷ []) 3 1 0 ≡ not (meets (a ∷ b ∷ c ∷ d ∷ []) 0 1 3)
  n310 = back 3 0 1 (omega arith) (omega arith) (omega arith) (λ e. omega arith) ∙ ap not m301

  n321 : meets (a ∷ b ∷ c ∷ d ∷ []) 3 2 1 ≡ not (meets (a ∷ b ∷ c ∷ d ∷ []) 1 2 3)
  n321 = back 3 1 2 (omega arith) (omega arith) (omega arith) (λ e. omega arith) ∙ ap not m312

  n320 : meets (a ∷ b ∷ c ∷ d ∷ []) 3 2 0 ≡ not (meets (a ∷ b ∷ c ∷ d ∷ []) 0 2 3)
  n320 = back 3 0 2 (omega arith) (omega arith) (omega arith) (λ e. omega arith) ∙ ap not m302

  pub round_of_four : Round (meets (a ∷ b ∷ c ∷ d ∷ []) 0 1 2) (meets (a ∷ b ∷ c ∷ d ∷ []) 0 1 3) (meets (a ∷ b ∷ c ∷ d ∷ []) 0 2 3) (meets (a ∷ b ∷ c ∷ d ∷ []) 1 2 3)
  round_of_four = round (meets (a ∷ b ∷ c ∷ d ∷ []) 0 1 2) (meets (a ∷ b ∷ c ∷ d ∷ []) 0 1 3) (meets (a ∷ b ∷ c ∷ d ∷ []) 0 2 3) (meets (a ∷ b ∷ c ∷ d ∷ []) 1 2 3) (record {
    from_0 = λ e f. go 0 1 2 3 (omega arith) e f;
    back_0 = λ e f. sym n031 ∙ go 0 3 2 1 (omega arith) (n032 ∙ e) (n021 ∙ f);
    from_1 = λ e f. sym m120 ∙ go 1 2 3 0 (omega arith) e (m130 ∙ f);
    back_1 = λ e f. sym n102 ∙ go 1 0 3 2 (omega arith) (n103 ∙ e) (n132 ∙ f);
    from_2 = λ e f. sym m231 ∙ go 2 3 0 1 (omega arith) (m230 ∙ e) (m201 ∙ f);
    back_2 = λ e f. sym n213 ∙ go 2 1 0 3 (omega arith) (n210 ∙ e) (n203 ∙ f);
    from_3 = λ e f. sym m302 ∙ go 3 0 1 2 (omega arith) (m301 ∙ e) (m312 ∙ f);
    back_3 = λ e f. sym n320 ∙ go 3 2 1 0 (omega arith) (n321 ∙ e) (n310 ∙ f);
  })
