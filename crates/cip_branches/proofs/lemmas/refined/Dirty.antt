-- Spheres that have to be looked at: as one turn finds them, and when all turns are done.
use Rattle.std.proofs.Common.{false, ◌≡◌, ◌≢◌, ◌<◌, ◌≤◌, ◌+◌, ◌==◌, ◌&&◌, ◌↔◌, ℕ, zero, suc, true, List, nat_eq, nat_lt, slice_index, refl, sym, ap, ◌∙◌, subst, arith, inl, inr}
use Rattle.std.proofs.lemmas.Bool.{cases_lt}
use Rattle.std.proofs.lemmas.Bool.Decides.{nat_tests}
use Rattle.cip_partition.specs.Parting.{KeepsSphere, is_class_start}
use Rattle.cip_partition.specs.Rows.{number_in}
use Rattle.cip_partition.specs.Stirring.{IsAbove}
use Rattle.cip_partition.proofs.lemmas.ClassInSphere.{place_low, shared_tells}
use Rattle.cip_branches.specs.Turning.{in_sphere, AreSpheres, AreStirred, IsInnermost, IsStirred, Refinement}
use Rattle.cip_branches.proofs.lemmas.refined.Kept.{other_place}

-- a sphere whose rows and numbers are the same elsewhere, and the next one has the same places
module _ (place_parents starts before now : List ℕ) (u : ℕ) (rows numbers new_rows new : List ℕ)
    (same : (row : ℕ) → slice_index starts u ≤ row → row < slice_index starts (suc u)
    → number_in rows numbers row ≡ number_in new_rows new row)
    (here : (kid : ℕ) → in_sphere rows starts (suc u) kid → in_sphere new_rows starts (suc u) kid)
    (above : (kid : ℕ) → in_sphere rows starts (suc u) kid
    → (slice_index starts u ≤ slice_index new (slice_index place_parents kid))
    × (slice_index numbers (slice_index place_parents kid) ≡ slice_index new (slice_index place_parents kid))) where
  goes_on : (row : ℕ) → slice_index starts u ≤ row → is_class_start rows numbers row (slice_index starts (suc u)) ≡ true
      → is_class_start new_rows new row (slice_index starts (suc u)) ≡ true
  goes_on row low shared =
      let to = slice_index starts (suc u) in
      subst (λ n. (nat_lt (row + 1) to && (n == row)) ≡ true)
      (same (row + 1) (omega (arith, low)) (shared_tells row (number_in rows numbers (row + 1)) to shared).0) shared

  pub stirred_moves : IsStirred place_parents rows starts before numbers now u → IsStirred place_parents new_rows starts before new now u
  stirred_moves was =
      let parent_place = above was.kid was.at in
      record {
        kid = was.kid;
        at = here was.kid was.at;
        differs = was.differs;
        shared = goes_on (slice_index new (slice_index place_parents was.kid)) parent_place.0
            (subst (λ n. is_class_start rows numbers n (slice_index starts (suc u)) ≡ true) parent_place.1 was.shared);
      }

-- the innermost one is the first, where and only where all have to be looked at
pub not_first : (t : ℕ) → nat_eq t 0 ≡ false → 0 < t
not_first t not = grind (arith, nat_tests)

-- numbers that stay stir nothing
pub none_stirred : {place_parents rows starts : List ℕ} {far : ℕ} {before start : List ℕ}
    → AreStirred place_parents rows starts 0 far before start before → ⊥
none_stirred all = (all.each 0 (omega arith) (omega arith)).differs refl

pub first_is : (place_parents rows starts : List ℕ) (t far : ℕ) (before start now : List ℕ)
    → IsInnermost place_parents rows starts t far before start now
    → (nat_eq t 0 ≡ true) ↔ AreStirred place_parents rows starts 0 far before start now
first_is place_parents rows starts zero far before start now is = (λ yes. is.dirty, λ all. refl)
first_is place_parents rows starts (suc t) far before start now is = (
  λ yes. let none : suc t ≡ 0 = grind (arith, nat_tests) in absurd (omega (arith, none)),
  λ all. let high = is.high in absurd (is.stands t refl (all.each t (omega arith) (omega (arith, high)))),
)

module _ (kids : ℕ → List ℕ) (place_parents rows starts : List ℕ) (last : ℕ) (start : List ℕ)
    (are : AreSpheres kids place_parents rows starts last start) (far : ℕ) (far_in : far < last) (before : List ℕ) where
  -- sphere s is next, those after it are done
  module _ (s : ℕ) (le : s ≤ far) (mid_rows mid : List ℕ)
      (refinement : Refinement kids place_parents rows starts far last start (suc s) mid_rows mid) where
    abbrev from : ℕ
    from = slice_index starts s

    abbrev to : ℕ
    to = slice_index starts (suc s)

    number_stands : (row : ℕ) → from ≤ row → row < to → number_in mid_rows mid row ≡ number_in rows start row
    number_stands row low high = ap (slice_index mid) (refinement.still row high)
        ∙ refinement.refines.inside s (slice_index rows row) (omega arith)
        (record { row = row; low = low; high = high; here = refl })

    above : (kid : ℕ) → in_sphere rows starts (suc s) kid → (from ≤ slice_index start (slice_index place_parents kid))
        × (slice_index mid (slice_index place_parents kid) ≡ slice_index start (slice_index place_parents kid))
    above kid at =
        let parent_place = are.parent_place s kid (omega (arith, le, far_in)) at in (
          place_low rows start from to (are.classed s (omega (arith, le, far_in))) (slice_index place_parents kid) parent_place,
          refinement.refines.inside s (slice_index place_parents kid) (omega arith) parent_place,
        )

    pub stirred_is : (number : ℕ) × IsAbove place_parents mid_rows before mid to (slice_index starts (suc (suc s))) number
        → IsStirred place_parents rows starts before start mid s
    stirred_is found =
        let place = found.1 in
        stirred_moves place_parents starts before mid s mid_rows mid rows start number_stands (refinement.places.there (suc s))
        (λ kid at. above kid (refinement.places.there (suc s) kid at))
        (record {
          kid = slice_index mid_rows place.row;
          at = record { row = place.row; low = place.low; high = place.high; here = refl };
          differs = place.differs;
          shared = subst (λ n. is_class_start mid_rows mid n to ≡ true) (sym place.here) place.shared;
        })

    pub above_is : IsStirred place_parents rows starts before start mid s
        → (number : ℕ) × IsAbove place_parents mid_rows before mid to (slice_index starts (suc (suc s))) number
    above_is dirty =
        let moved = stirred_moves place_parents starts before mid s rows start mid_rows mid
        (λ row low high. sym (number_stands row low high)) (refinement.places.here (suc s))
        (λ kid at. let parent_place = above kid at in (subst (λ n. from ≤ n) (sym parent_place.1) parent_place.0, sym parent_place.1)) dirty in
        let p = moved.at in (
          slice_index mid (slice_index place_parents moved.kid),
          record {
            row = p.row;
            low = p.low;
            high = p.high;
            here = ap (λ kid. slice_index mid (slice_index place_parents kid)) p.here;
            differs = subst (λ kid. slice_index mid kid ≢ slice_index before kid) (sym p.here) moved.differs;
            shared = moved.shared;
          },
        )

    -- what was found holds when the sphere is turned
    pub stirred_on : (new_rows new : List ℕ) → KeepsSphere from to mid_rows new_rows mid new
        → IsStirred place_parents rows starts before start mid s → AreStirred place_parents rows starts (suc s) far before start mid
        → AreStirred place_parents rows starts s far before start new
    stirred_on new_rows new kept one all = record {
      each = λ u low high. elim (cases_lt s u) [
        | inl behind ↦ moved u low (all.each u (omega (arith, behind)) high)
        | inr here ↦ moved u low (subst (IsStirred place_parents rows starts before start mid) (omega (arith, low, here)) one)
      ];
    }
      where
        moved : (u : ℕ) → s ≤ u → IsStirred place_parents rows starts before start mid u
            → IsStirred place_parents rows starts before start new u
        moved u low was = record {
          kid = was.kid;
          at = was.at;
          differs = λ e. was.differs (sym (other_place kids place_parents mid_rows starts last mid refinement.spheres s
              (omega (arith, le, far_in)) new_rows new kept (suc u) was.kid (λ same. absurd (omega (arith, same, low)))
              (refinement.places.here (suc u) was.kid was.at)) ∙ e);
          shared = was.shared;
        }
