-- One turn inwards: flags by what changed in the sphere after, and then the sphere itself.
use Rattle.std.proofs.Common.{◌≡◌, ◌<◌, ◌≤◌, ℕ, Bool, false, List, true, slice_index, sym, ap, ◌∙◌, subst, arith, inl, inr}
use Rattle.cip_rank.proofs.lemmas.Descending.{all_by}
use Rattle.cip_partition.specs.Kids.{AreCalm, by_kids, kid_set, KnowTheirKids}
use Rattle.cip_partition.specs.Parting.{has_flag, is_class_start, FlagHeads}
use Rattle.cip_partition.specs.Rows.{IsRow, number_in, AreClassed, OrdersPlaces}
use Rattle.cip_partition.specs.Stirring.{number_above, IsAbove, StirsAbove, KnowParents, TieUnlessStirred, NoFlags}
use Rattle.cip_partition.proofs.lemmas.ClassInSphere.{place_low, place_high, place_head, one_place}
use Rattle.cip_partition.proofs.lemmas.Cases.{cases_flag, not_both}
use Rattle.cip_branches.proofs.lemmas.refined.KidSets.{still_ordered}
use Rattle.cip_partition.proofs.lemmas.DirtyPlaces.{as_before}

-- a place in some rows is one in more of them
pub wider : (rows : List ℕ) (from to past : ℕ) → to ≤ past → (place : ℕ) → IsRow rows from to place
    → IsRow rows 0 past place
wider rows from to past le place p = record {
  row = p.row;
  low = omega arith;
  high = let lt = p.high in omega (arith, le, lt);
  here = p.here;
}

-- what flags say of the rows of a sphere, once they are set above the places after it that changed
pub record Flagged (kids : ℕ → List ℕ) (place_parents rows numbers : List ℕ) (from to : ℕ) (old new : List Bool) : Type 0 where
  pub known : KnowTheirKids kids place_parents rows from to
  pub heads : FlagHeads rows numbers from to new
  pub calm : AreCalm kids (IsRow rows from to) (λ number. has_flag new number ≡ false) numbers
  pub cleared : (cleared : List Bool) → ((row : ℕ) → from ≤ row → row < to → has_flag cleared row ≡ false)
      → ((row : ℕ) → has_flag cleared row ≡ true → has_flag new row ≡ true) → NoFlags cleared
  pub stands : new ≡ old → OrdersPlaces (IsRow rows from to) (by_kids kids numbers) numbers

module _ (kids : ℕ → List ℕ) (place_parents rows before numbers : List ℕ) (from to past : ℕ)
    (classed : AreClassed rows numbers from to) (parents : KnowParents kids place_parents rows from to past) where
  pub above_within : (k : ℕ) → to ≤ k → k < past → number_above place_parents rows numbers k < to
  above_within k low high = place_high rows numbers from to classed (slice_index place_parents (slice_index rows k)) (parents.parent_place k
      low high)

  module _ (old new : List Bool) (stirs : StirsAbove place_parents rows before numbers to past old new) where
    heads_after : NoFlags old → FlagHeads rows numbers from to new
    heads_after none = record {
      each = λ row low high has. elim (stirs.only row has) [
        | inl was ↦ absurd (not_both (has_flag old row) was (none.none row))
        | inr above ↦ subst (λ n. number_in rows numbers n ≡ n) above.here (place_head rows numbers from to classed
            (slice_index place_parents (slice_index rows above.row)) (parents.parent_place above.row above.low above.high))
      ];
    }

    -- each flag is in these rows
    flag_here : NoFlags old → (row : ℕ) → has_flag new row ≡ true → (from ≤ row) × (row < to)
    flag_here none row has = elim (stirs.only row has) [
      | inl was ↦ absurd (not_both (has_flag old row) was (none.none row))
      | inr above ↦ subst (λ n. (from ≤ n) × (n < to)) above.here (
        place_low rows numbers from to classed (slice_index place_parents (slice_index rows above.row)) (parents.parent_place above.row
            above.low above.high),
        above_within above.row above.low above.high,
      )
    ]

    none_after : NoFlags old → (cleared : List Bool)
        → ((row : ℕ) → from ≤ row → row < to → has_flag cleared row ≡ false)
        → ((row : ℕ) → has_flag cleared row ≡ true → has_flag new row ≡ true) → NoFlags cleared
    none_after none cleared unset fewer = record {
      none = λ row. elim (cases_flag (has_flag cleared row)) [
        | inl has ↦ let at = flag_here none row (fewer row has) in unset row at.0 at.1
        | inr not ↦ not
      ];
    }

    calm_after : TieUnlessStirred kids before rows numbers from to
        → AreCalm kids (IsRow rows from to) (λ number. has_flag new number ≡ false) numbers
    calm_after ties = record {
      same = λ a b p q tie calm. elim (cases_flag (is_class_start rows numbers (slice_index numbers a) to)) [
        | inl shared ↦ ties.same a b p q tie
            (as_before kids place_parents rows before numbers to past old new a (parents.node_data a p) stirs calm shared)
            (as_before kids place_parents rows before numbers to past old new b (parents.node_data b q) stirs
            (ap (has_flag new) (sym tie) ∙ calm) (ap (λ n. is_class_start rows numbers n to) (sym tie) ∙ shared))
        | inr single ↦ ap (kid_set kids numbers) (one_place rows numbers from to classed a b p q tie single)
      ];
    }

  -- where no class has a flag, the sphere is unchanged
  stands : (flags : List Bool) → StirsAbove place_parents rows before numbers to past flags flags → NoFlags flags
      → TieUnlessStirred kids before rows numbers from to
      → OrdersPlaces (IsRow rows from to) (by_kids kids numbers) numbers
  stands flags stirs none ties = still_ordered kids (IsRow rows from to) (λ number. has_flag flags number ≡ false)
      numbers (calm_after flags flags stirs ties) (λ place p. none.none (slice_index numbers place))

  knows : KnowTheirKids kids place_parents rows from to
  knows = record { each = λ place p. all_by (λ kid is. is.1) (kids place) (parents.node_data place p) }

  pub flagged : (old new : List Bool) → StirsAbove place_parents rows before numbers to past old new → NoFlags old
      → TieUnlessStirred kids before rows numbers from to → Flagged kids place_parents rows numbers from to old new
  flagged old new stirs none ties = record {
    known = knows;
    heads = heads_after old new stirs none;
    calm = calm_after old new stirs ties;
    cleared = none_after old new stirs none;
    stands = λ same. stands old (subst (StirsAbove place_parents rows before numbers to past old) same stirs) none ties;
  }

-- where no flag was set, nothing is to be looked at
pub none_above : (place_parents rows before numbers : List ℕ) (from to : ℕ) (old new : List Bool)
    → StirsAbove place_parents rows before numbers from to old new → NoFlags old → new ≡ old
    → (number : ℕ) × IsAbove place_parents rows before numbers from to number → ⊥
none_above place_parents rows before numbers from to old new stirs none same found =
    let above = found.1 in
    let place = number_above place_parents rows numbers above.row in
    not_both (has_flag new place)
    (stirs.each above.row above.low above.high above.differs
    (subst (λ n. is_class_start rows numbers n from ≡ true) (sym above.here) above.shared))
    (subst (λ flags. has_flag flags place ≡ false) (sym same) (none.none place))
