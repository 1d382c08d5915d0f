-- Flags of classes, set one after another.
use Rattle.std.proofs.Common.{◌≡◌, ◌≢◌, ◌<◌, ◌≤◌, ◌+◌, ◌||◌, ℕ, zero, suc, Bool, true, false, if◌then◌else◌, List, [], ◌∷◌, length, slice_index, slice_set, refl, sym, ap, ◌∙◌, subst, arith, inl, inr}
use Rattle.std.specs.List.{AllByRecursion}
use Rattle.std.proofs.lemmas.Bool.{cases_lt}
use Rattle.cip_rank.proofs.lemmas.Descending.{all_by}
use Rattle.cip_partition.specs.Parting.{has_flag, is_class_start}
use Rattle.cip_partition.specs.Rows.{IsRow}
use Rattle.cip_partition.specs.Stirring.{number_above, IsAbove, StirsAbove}
use Rattle.cip_partition.proofs.lemmas.Cases.{cases_same, not_both}

set_here : (flags : List Bool) (n : ℕ) → n < length flags → has_flag (slice_set flags n true) n ≡ true
set_here [] n lt = absurd (omega arith)
set_here (f ∷ flags) zero lt = refl
set_here (f ∷ flags) (suc n) lt = set_here flags n (omega arith)

set_other : (flags : List Bool) (n m : ℕ) → n ≢ m → has_flag (slice_set flags n true) m ≡ has_flag flags m
set_other [] n m differ = refl
set_other (f ∷ flags) zero zero differ = absurd (differ refl)
set_other (f ∷ flags) zero (suc m) differ = refl
set_other (f ∷ flags) (suc n) zero differ = refl
set_other (f ∷ flags) (suc n) (suc m) differ = set_other flags n m (λ e. differ (ap suc e))

set_stays : (flags : List Bool) (n m : ℕ) → n < length flags → has_flag flags m ≡ true
    → has_flag (slice_set flags n true) m ≡ true
set_stays flags n m lt has = elim (cases_same n m) [
  | inl same ↦ subst (λ k. has_flag (slice_set flags n true) k ≡ true) same (set_here flags n lt)
  | inr differ ↦ set_other flags n m differ ∙ has
]

-- in more rows
later_row : (place_parents rows before numbers : List ℕ) (from k number : ℕ) → IsAbove place_parents rows before numbers from k number
    → IsAbove place_parents rows before numbers from (k + 1) number
later_row place_parents rows before numbers from k number at = record {
  row = at.row;
  low = at.low;
  high = let h = at.high in omega (arith, h);
  here = at.here;
  differs = at.differs;
  shared = at.shared;
}

module _ (place_parents rows before numbers : List ℕ) (from k : ℕ) (start old new : List Bool)
    (done : StirsAbove place_parents rows before numbers from k start old) (low : from ≤ k)
    (within : number_above place_parents rows numbers k < length old) where
  abbrev above : ℕ
  above = number_above place_parents rows numbers k

  abbrev Differs : Type 0
  Differs = slice_index numbers (slice_index rows k) ≢ slice_index before (slice_index rows k)

  pub set_on : Differs → is_class_start rows numbers above from ≡ true → new ≡ slice_set old above true
      → StirsAbove place_parents rows before numbers from (k + 1) start new
  set_on other many is = record {
    each = λ j l h differ shared. elim (cases_lt j k) [
      | inl earlier ↦ subst (λ fs. has_flag fs (number_above place_parents rows numbers j) ≡ true) (sym is)
          (set_stays old above (number_above place_parents rows numbers j) within (done.each j l earlier differ shared))
      | inr on ↦ let at : k ≡ j = omega (arith, on, h) in
          subst (λ i. has_flag new (number_above place_parents rows numbers i) ≡ true) at
          (subst (λ fs. has_flag fs above ≡ true) (sym is) (set_here old above within))
    ];
    only = λ number has. elim (cases_same above number) [
      | inl same ↦ inr (record {
        row = k;
        low = low;
        high = omega arith;
        here = same;
        differs = other;
        shared = subst (λ n. is_class_start rows numbers n from ≡ true) same many;
      })
      | inr differ ↦ elim (done.only number (sym (set_other old above number differ) ∙ ap (λ fs. has_flag fs number)
          (sym is) ∙ has)) [
            | inl earlier ↦ inl earlier
            | inr at ↦ inr (later_row place_parents rows before numbers from k number at)
          ]
    ];
    stay = λ number has. subst (λ fs. has_flag fs number ≡ true) (sym is)
        (set_stays old above number within (done.stay number has));
  }

  pub pass_on : (is_class_start rows numbers above from ≡ true
      → slice_index numbers (slice_index rows k) ≡ slice_index before (slice_index rows k)) → new ≡ old
      → StirsAbove place_parents rows before numbers from (k + 1) start new
  pass_on alike is = record {
    each = λ j l h differ shared. elim (cases_lt j k) [
      | inl earlier ↦ subst (λ fs. has_flag fs (number_above place_parents rows numbers j) ≡ true) (sym is) (done.each j l earlier
          differ shared)
      | inr on ↦ let at : k ≡ j = omega (arith, on, h) in
          absurd (differ (subst (λ i. slice_index numbers (slice_index rows i) ≡ slice_index before (slice_index rows i))
          at (alike (subst (λ i. is_class_start rows numbers (number_above place_parents rows numbers i) from ≡ true) (sym at) shared))))
    ];
    only = λ number has. elim (done.only number (ap (λ fs. has_flag fs number) (sym is) ∙ has)) [
      | inl earlier ↦ inl earlier
      | inr at ↦ inr (later_row place_parents rows before numbers from k number at)
    ];
    stay = λ number has. subst (λ fs. has_flag fs number ≡ true) (sym is) (done.stay number has);
  }

  pub either_on : (is_wanted : Bool)
      → (is_wanted ≡ false → is_class_start rows numbers above from ≡ true
      → slice_index numbers (slice_index rows k) ≡ slice_index before (slice_index rows k))
      → (is_wanted ≡ true → Differs) → (is_wanted ≡ true → is_class_start rows numbers above from ≡ true)
      → new ≡ (if is_wanted then slice_set old above true else old)
      → StirsAbove place_parents rows before numbers from (k + 1) start new
  either_on true alike other many is = set_on (other refl) (many refl) is
  either_on false alike other many is = pass_on (alike refl) is

-- the same as the code finds the class above
pub stirred_on : (place_parents rows before numbers : List ℕ) (from k place above : ℕ) (is_stirred : Bool)
    (start old new : List Bool) → StirsAbove place_parents rows before numbers from k start old → from ≤ k → above < length old
    → place ≡ slice_index rows k → above ≡ slice_index numbers (slice_index place_parents place)
    → (is_stirred ≡ false → is_class_start rows numbers above from ≡ true
    → slice_index numbers place ≡ slice_index before place)
    → (is_stirred ≡ true → slice_index numbers place ≢ slice_index before place)
    → (is_stirred ≡ true → is_class_start rows numbers above from ≡ true)
    → new ≡ (if is_stirred then slice_set old above true else old)
    → StirsAbove place_parents rows before numbers from (k + 1) start new
stirred_on place_parents rows before numbers from k place above is_stirred start old new done low within place_is above_is alike
    differs shared is =
    let here : above ≡ number_above place_parents rows numbers k = above_is
    ∙ ap (λ p. slice_index numbers (slice_index place_parents p)) place_is in
    either_on place_parents rows before numbers from k start old new done low (subst (λ n. n < length old) here within) is_stirred
    (λ not many. subst (λ p. slice_index numbers p ≡ slice_index before p) place_is
    (alike not (subst (λ n. is_class_start rows numbers n from ≡ true) (sym here) many)))
    (λ yes. subst (λ p. slice_index numbers p ≢ slice_index before p) place_is (differs yes))
    (λ yes. subst (λ n. is_class_start rows numbers n from ≡ true) here (shared yes))
    (is ∙ ap (λ n. if is_stirred then slice_set old n true else old) here)

-- where a class became dirty, there is one
pub some_on : (place_parents rows before numbers : List ℕ) (from k place : ℕ) (any is_stirred : Bool) → from ≤ k
    → place ≡ slice_index rows k → (any ≡ true → (number : ℕ) × IsAbove place_parents rows before numbers from k number)
    → (is_stirred ≡ true → slice_index numbers place ≢ slice_index before place)
    → (is_stirred ≡ true → is_class_start rows numbers (slice_index numbers (slice_index place_parents place)) from ≡ true)
    → (any || is_stirred) ≡ true → (number : ℕ) × IsAbove place_parents rows before numbers from (k + 1) number
some_on place_parents rows before numbers from k place true is_stirred low is earlier differs shared some =
    let at = earlier refl in
    (at.0, later_row place_parents rows before numbers from k at.0 at.1)
some_on place_parents rows before numbers from k place false true low is earlier differs shared some = (
  slice_index numbers (slice_index place_parents place),
  record {
    row = k;
    low = low;
    high = omega arith;
    here = ap (λ p. slice_index numbers (slice_index place_parents p)) (sym is);
    differs = subst (λ p. slice_index numbers p ≢ slice_index before p) is (differs refl);
    shared = shared refl;
  },
)
some_on place_parents rows before numbers from k place false false low is earlier differs shared some =
    let bad : false ≡ true = some in cc

-- where no class became dirty, no flag was set
pub none_on : (any is_stirred : Bool) (number : ℕ) (start old new : List Bool) → (any ≡ false → old ≡ start)
    → new ≡ (if is_stirred then slice_set old number true else old) → (any || is_stirred) ≡ false → new ≡ start
none_on true is_stirred number start old new before is none = let bad : true ≡ false = none in cc
none_on false true number start old new before is none = let bad : true ≡ false = none in cc
none_on false false number start old new before is none = is ∙ before refl

-- a place whose class has no flag, and two places and more, has children with the numbers of before
pub as_before : (kids : ℕ → List ℕ) (place_parents rows before numbers : List ℕ) (from to : ℕ) (old new : List Bool) (place : ℕ)
    → AllByRecursion (λ kid. IsRow rows from to kid × (slice_index place_parents kid ≡ place)) (kids place)
    → StirsAbove place_parents rows before numbers from to old new
    → has_flag new (slice_index numbers place) ≡ false
    → is_class_start rows numbers (slice_index numbers place) from ≡ true
    → AllByRecursion (λ kid. slice_index numbers kid ≡ slice_index before kid) (kids place)
as_before kids place_parents rows before numbers from to old new place node_data stirs calm shared =
    all_by (λ kid is. elim (cases_same (slice_index numbers kid) (slice_index before kid)) [
      | inl same ↦ same
      | inr differ ↦
          let at = is.0 in
          let here : number_above place_parents rows numbers at.row ≡ slice_index numbers place =
          ap (λ n. slice_index numbers (slice_index place_parents n)) at.here ∙ ap (slice_index numbers) is.1 in
          let has : has_flag new (number_above place_parents rows numbers at.row) ≡ true = stirs.each at.row at.low at.high
          (λ e. differ (ap (slice_index numbers) (sym at.here) ∙ e ∙ ap (slice_index before) at.here))
          (ap (λ n. is_class_start rows numbers n from) here ∙ shared) in
          absurd (not_both (has_flag new (slice_index numbers place)) (ap (has_flag new) (sym here) ∙ has) calm)
    ]) (kids place) node_data

-- before the first row
pub none_stirred : (place_parents rows before numbers : List ℕ) (from : ℕ) (flags : List Bool)
    → StirsAbove place_parents rows before numbers from from flags flags
none_stirred place_parents rows before numbers from flags = record {
  each = λ k low high differs shared. absurd (omega (arith, low, high));
  only = λ number set. inl set;
  stay = λ number set. set;
}
