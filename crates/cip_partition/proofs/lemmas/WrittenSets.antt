-- Sets written at the places of children, one place's after another's.
use Rattle.std.proofs.Common.{◌≡◌, ◌<◌, ◌≤◌, ◌+◌, ℕ, Bool, true, List, map, slice_index, refl, sym, ap, ◌∙◌, subst, arith, inl, inr}
use Rattle.std.proofs.lemmas.Bool.{cases_lt}
use Rattle.cip_rank.specs.Ranged.{KeepsOthers}
use Rattle.cip_rank.proofs.lemmas.Parts.{range_alike}
use Rattle.cip_partition.specs.Kids.{kids_by, KnowTheirKids, HoldKidSets, kid_set}
use Rattle.cip_partition.specs.Parting.{has_flag}
use Rattle.cip_partition.specs.Rows.{number_in}
use Rattle.cip_partition.proofs.lemmas.Cases.{cases_same, in_range}

sets_on : (firsts counts place_parents rows numbers : List ℕ) (from to k : ℕ) (flags : List Bool)
    (old new : List ℕ)
    → KnowTheirKids (kids_by firsts counts) place_parents rows from to
    → from ≤ k → k < to
    → (has_flag flags (number_in rows numbers k) ≡ true
    → map (slice_index new) (kids_by firsts counts (slice_index rows k))
    ≡ kid_set (kids_by firsts counts) numbers (slice_index rows k))
    → KeepsOthers (slice_index firsts (slice_index rows k))
    (slice_index firsts (slice_index rows k) + slice_index counts (slice_index rows k)) old new
    → HoldKidSets (kids_by firsts counts) rows numbers from k flags old
    → HoldKidSets (kids_by firsts counts) rows numbers from (k + 1) flags new
sets_on firsts counts place_parents rows numbers from to k flags old new known low high part keeps hold = record {
  each = λ j l h flag. elim (cases_same (slice_index rows j) (slice_index rows k)) [
    | inl same ↦ subst (λ p. map (slice_index new) (kids_by firsts counts p) ≡ kid_set (kids_by firsts counts) numbers
        p) (sym same) (part (ap (λ p. has_flag flags (slice_index numbers p)) (sym same) ∙ flag))
    | inr differ ↦ elim (cases_lt j k) [
      | inl before ↦
          range_alike (slice_index new) (slice_index old) (slice_index firsts (slice_index rows j))
          (slice_index counts (slice_index rows j))
          (λ c lc hc. elim (cases_lt c (slice_index firsts (slice_index rows k))) [
            | inl ahead ↦ keeps.before c ahead
            | inr from_first ↦ elim (cases_lt c (slice_index firsts (slice_index rows k) + slice_index counts
                (slice_index rows k))) [
                  | inr behind ↦ keeps.behind c behind
                  | inl inside ↦ absurd (differ (sym (knows j l (omega (arith, before, high)) c lc hc)
                      ∙ knows k low high c from_first inside))
                ]
          ])
          ∙ hold.each j l before flag
      | inr on ↦ let at : j ≡ k = omega (arith, on, h) in absurd (differ (ap (slice_index rows) at))
    ]
  ];
}
  where
    knows : (j : ℕ) → from ≤ j → j < to → (c : ℕ) → slice_index firsts (slice_index rows j) ≤ c
        → c < slice_index firsts (slice_index rows j) + slice_index counts (slice_index rows j)
        → slice_index place_parents c ≡ slice_index rows j
    knows j l h c lc hc = in_range (λ kid. slice_index place_parents kid ≡ slice_index rows j)
        (slice_index firsts (slice_index rows j)) (slice_index counts (slice_index rows j))
        (known.each (slice_index rows j) (record { row = j; low = l; high = h; here = refl })) c lc hc

-- the same as the code finds a place
pub sets_written : (firsts counts place_parents rows numbers read : List ℕ) (from to k place number : ℕ)
    (is_wanted : Bool) (flags : List Bool) (old new : List ℕ)
    → KnowTheirKids (kids_by firsts counts) place_parents rows from to → from ≤ k → k < to
    → place ≡ slice_index rows k → number ≡ slice_index numbers place → is_wanted ≡ has_flag flags number
    → read ≡ numbers
    → (is_wanted ≡ true → map (slice_index new) (kids_by firsts counts place)
    ≡ kid_set (kids_by firsts counts) read place)
    → KeepsOthers (slice_index firsts place) (slice_index firsts place + slice_index counts place) old new
    → HoldKidSets (kids_by firsts counts) rows numbers from k flags old
    → HoldKidSets (kids_by firsts counts) rows numbers from (k + 1) flags new
sets_written firsts counts place_parents rows numbers read from to k place number is_wanted flags old new known low high place_is
    number_is unresolved read_is set keeps hold =
    let kids = kids_by firsts counts in
    sets_on firsts counts place_parents rows numbers from to k flags old new known low high
    (λ flag. subst (λ p. map (slice_index new) (kids p) ≡ kid_set kids numbers p) place_is
    (subst (λ (ns : List ℕ). map (slice_index new) (kids place) ≡ kid_set kids ns place) read_is
    (set (unresolved ∙ ap (has_flag flags) (number_is ∙ ap (slice_index numbers) place_is) ∙ flag))))
    (subst (λ p. KeepsOthers (slice_index firsts p) (slice_index firsts p + slice_index counts p) old new) place_is
    keeps) hold
