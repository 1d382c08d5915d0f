-- Rows of a class that was split hold places that have numbers, as before.
use Rattle.std.proofs.Common.{◌<◌, ◌≤◌, ℕ, List, length, arith, inl, inr}
use Rattle.std.specs.Prelude.{slice_index}
use Rattle.std.specs.declared.cmp.Ordering.{Ordering}
use Rattle.std.proofs.lemmas.Bool.{cases_order}
use Rattle.cip_partition.specs.Parting.{PartsRows}

pub still_below : (compare : ℕ → ℕ → Ordering) (first past : ℕ) (rows new_rows numbers new_numbers : List ℕ)
    → PartsRows compare first past rows new_rows numbers new_numbers → past ≤ length rows
    → ((k : ℕ) → k < length rows → slice_index rows k < length numbers) → (k : ℕ) → k < length new_rows
    → slice_index new_rows k < length new_numbers
still_below compare first past rows new_rows numbers new_numbers parts high below k within =
    elim (cases_order k first) [
      | inl same ↦ from_first (omega (arith, same))
      | inr (inl before) ↦
          let low = below k (omega (arith, within, parts.kept.len)) in
          omega (arith, low, parts.kept.before k before, parts.len)
      | inr (inr above) ↦ from_first (omega (arith, above))
    ]
  where
    behind : past ≤ k → slice_index new_rows k < length new_numbers
    behind far =
        let low = below k (omega (arith, within, parts.kept.len)) in
        omega (arith, low, parts.kept.behind k far, parts.len)

    from_first : first ≤ k → slice_index new_rows k < length new_numbers
    from_first from = elim (cases_order k past) [
      | inl same ↦ behind (omega (arith, same))
      | inr (inl before) ↦
          let row = parts.there k from before in
          let low = below row.row (omega (arith, row.high, high)) in
          omega (arith, low, row.here, parts.len)
      | inr (inr above) ↦ behind (omega (arith, above))
    ]
