-- Numbers noted as those of before, row by row, and after a pass.
use Rattle.std.proofs.Common.{◌≡◌, ◌<◌, ◌≤◌, ◌+◌, ℕ, List, length, slice_index, slice_set, sym, ap, ◌∙◌, subst, arith, inl, inr}
use Rattle.std.proofs.lemmas.Bool.{cases_lt}
use Rattle.std.proofs.lemmas.List.{get_or_default, get_or-set_same, get_or-set_other, same_lists}
use Rattle.cip_branches.specs.Passing.{AreNotedBut}
use Rattle.cip_partition.specs.Rows.{number_in}
use Rattle.cip_partition.proofs.lemmas.Cases.{cases_same}

module _ (rows numbers : List ℕ) (to : ℕ) where
  pub note_next : (before : List ℕ) (row : ℕ) → slice_index rows row < length before
      → AreNotedBut rows row to before numbers
      → AreNotedBut rows (row + 1) to (slice_set before (slice_index rows row) (number_in rows numbers row)) numbers
  note_next before row lt noted = record {
    each = λ place none. elim (cases_same (slice_index rows row) place) [
      | inl here ↦ subst (λ n. slice_index (slice_set before (slice_index rows row) (number_in rows numbers row)) n
          ≡ slice_index numbers n) here
          (get_or-set_same before (slice_index rows row) (number_in rows numbers row) 0 lt)
      | inr differ ↦ get_or-set_other before (slice_index rows row) place (number_in rows numbers row) 0
          (λ e. differ (sym e))
          ∙ noted.each place (λ p. elim (cases_lt row p.row) [
            | inl behind ↦ none (record {
              row = p.row;
              low = omega (arith, behind);
              high = p.high;
              here = p.here;
            })
            | inr before_it ↦
                let at : row ≡ p.row = omega (arith, p.low, before_it) in
                differ (ap (slice_index rows) at ∙ p.here)
          ])
    ];
  }

  -- where no rows are left, all are noted
  pub all_noted : (before : List ℕ) (row : ℕ) → to ≤ row → length before ≡ length numbers
      → AreNotedBut rows row to before numbers → before ≡ numbers
  all_noted before row over len noted = same_lists before numbers len (λ k d lt.
      get_or_default before k d 0 lt
      ∙ noted.each k (λ p. let low = p.low in let high = p.high in absurd (omega (arith, low, high, over)))
      ∙ get_or_default numbers k 0 d (omega (arith, lt, len)))
