-- A sphere split by the sets that were written is ordered by its children's numbers.
use Rattle.std.proofs.Common.{◌≡◌, ◌<◌, ◌≤◌, ℕ, Bool, true, false, List, map, length, slice_index, refl, sym, ap, ◌∙◌, subst, arith}
use Rattle.std.specs.Ordering.{nat_cmp, on}
use Rattle.std.specs.Cmp.Lexicographic.{slice_cmp}
use Rattle.std.proofs.lemmas.Cmp.{tied_itself, nat_cmp_total, lists_total}
use Rattle.cip_partition.specs.Kids.{HoldKidSets, kid_set, by_kids, AreCalm}
use Rattle.cip_partition.specs.Parting.{has_flag, PartsSphere}
use Rattle.cip_partition.specs.Rows.{IsRow, AreClassed, OrdersPlaces}
use Rattle.cip_partition.proofs.lemmas.ClassInSphere.{place_high}
use Rattle.cip_partition.proofs.lemmas.PartedSphere.{sphere_parted}

module _ (kids : ℕ → List ℕ) (rows numbers : List ℕ) (from to : ℕ) (flags : List Bool)
    (classed : AreClassed rows numbers from to) where
  pub flags_within : to ≤ length flags → (k : ℕ) → from ≤ k → k < to
      → slice_index numbers (slice_index rows k) < length flags
  flags_within le k low high =
      let lt = place_high rows numbers from to classed (slice_index rows k) (record {
        row = k;
        low = low;
        high = high;
        here = refl;
      }) in
      omega (arith, le, lt)

  pub kids_parted : (sets new_rows new : List ℕ)
      → PartsSphere (on (λ place. map (slice_index sets) (kids place)) (slice_cmp nat_cmp)) from to to
      flags rows new_rows numbers new
      → HoldKidSets kids rows numbers from to flags sets
      → AreCalm kids (IsRow rows from to) (λ number. has_flag flags number ≡ false) numbers
      → OrdersPlaces (IsRow rows from to) (by_kids kids numbers) new
  kids_parted sets new_rows new parts hold calm =
      sphere_parted (on (λ place. map (slice_index sets) (kids place)) (slice_cmp nat_cmp)) from to
      flags rows numbers classed (on (kid_set kids numbers) (slice_cmp nat_cmp)) new_rows new parts
      (λ a b p q same flag.
      ap (λ ns. slice_cmp nat_cmp ns (map (slice_index sets) (kids b))) (held a p flag)
      ∙ ap (slice_cmp nat_cmp (kid_set kids numbers a))
      (held b q (ap (has_flag flags) (sym same) ∙ flag)))
      (λ a b p q same none.
      ap (λ ns. slice_cmp nat_cmp ns (kid_set kids numbers b)) (calm.same a b p q same none)
      ∙ tied_itself (lists_total nat_cmp_total) (kid_set kids numbers b))
    where
      held : (place : ℕ) → IsRow rows from to place → has_flag flags (slice_index numbers place) ≡ true
          → map (slice_index sets) (kids place) ≡ kid_set kids numbers place
      held place p flag = subst (λ n. map (slice_index sets) (kids n) ≡ kid_set
          kids numbers n) p.here (hold.each p.row p.low p.high (ap (λ n. has_flag flags
          (slice_index numbers n)) p.here ∙ flag))
