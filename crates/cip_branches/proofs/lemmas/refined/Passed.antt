-- A rule taken one sphere further: what the spheres further in are refined by, and what the pass leaves.
use Rattle.std.proofs.Common.{◌≡◌, ◌≢◌, ◌<◌, ◌≤◌, ℕ, ℤ, suc, List, length, slice_index, sym, ◌∙◌, subst, arith, inl, inr}
use Rattle.std.specs.List.{AllByRecursion}
use Rattle.std.specs.Ordering.{int_cmp, then_cmp, on}
use Rattle.std.proofs.lemmas.Bool.{cases_lt}
use Rattle.cip_rank.specs.Ranking.{by_number}
use Rattle.cip_rank.proofs.lemmas.Descending.{all_by}
use Rattle.cip_partition.specs.Parting.{KeepsSphere}
use Rattle.cip_branches.specs.Passing.{AreNotedBut, AreSteadyButNew, Passes}
use Rattle.cip_branches.specs.Refining.{Refines}
use Rattle.cip_partition.specs.Rows.{IsRow, number_in, OrdersPlaces}
use Rattle.cip_branches.specs.Turning.{in_sphere, AreSpheres, AreSteadyBefore, IsInnermost, IsStirred, SamePlaces, Stands, StandBut}
use Rattle.cip_partition.proofs.lemmas.Cases.{both, cases_same}
use Rattle.cip_partition.proofs.lemmas.ClassInSphere.{place_high, place_low}
use Rattle.cip_branches.proofs.lemmas.refined.Kept.{other_number, other_place, places_kept, rises_to, spheres_kept}
use Rattle.cip_branches.proofs.lemmas.refined.Dirty.{stirred_moves}

-- the same children in other rows
module _ (kids : ℕ → List ℕ) (place_parents rows starts : List ℕ) (last far room : ℕ) (far_in : far < last)
    (old before : List ℕ) (are : AreSpheres kids place_parents rows starts last old) (fits : length rows ≤ room)
    (noted : AreNotedBut rows (slice_index starts (suc far)) (slice_index starts (suc (suc far))) before old)
    (steady : AreSteadyButNew kids (in_sphere rows starts) far room before)
    (new_rows start : List ℕ)
    (kept : KeepsSphere (slice_index starts (suc far)) (slice_index starts (suc (suc far))) rows new_rows old
    start) where
  pub places : SamePlaces rows new_rows starts
  places = places_kept kids place_parents rows starts last old are (suc far) (omega (arith, far_in)) new_rows start kept

  pub split_spheres : AreSpheres kids place_parents new_rows starts last start
  split_spheres = spheres_kept kids place_parents rows starts last old are (suc far) (omega (arith, far_in)) new_rows start kept

  begins : (t place : ℕ) → t ≤ far → in_sphere rows starts t place → slice_index old place ≡ slice_index before place
  begins t place le p = sym (noted.each place (λ q. let same = are.once t (suc far) place p q in
      absurd (omega (arith, same, le))))

  other : (t place : ℕ) → t ≢ suc far → in_sphere rows starts t place → slice_index start place ≡ slice_index old place
  other = other_place kids place_parents rows starts last old are (suc far) (omega (arith, far_in)) new_rows start kept

  still : (t place : ℕ) → t ≤ far → in_sphere rows starts t place → slice_index start place ≡ slice_index before place
  still t place le p = other t place (λ e. absurd (omega (arith, e, le))) p ∙ begins t place le p

  -- a number at the start is a row
  is_row : (t place : ℕ) → t ≤ last → in_sphere new_rows starts t place → slice_index start place ≢ room
  is_row t place le p e =
      let high = place_high new_rows start (slice_index starts t) (slice_index starts (suc t))
      (split_spheres.classed t le) place p in
      let within = split_spheres.within t le in
      absurd (omega (arith, high, within, places.len, fits, e))

  known : (t place : ℕ) → t ≤ far → in_sphere new_rows starts t place
      → AllByRecursion (λ kid. slice_index start kid ≡ slice_index before kid) (kids place)
      → AllByRecursion (λ kid. slice_index before kid ≢ room) (kids place)
  known t place le p same = all_by (λ kid h. λ e. is_row (suc t) kid (omega (arith, le, far_in)) h.1.0 (h.0 ∙ e))
      (kids place) (both (λ kid. slice_index start kid ≡ slice_index before kid)
      (λ kid. in_sphere new_rows starts (suc t) kid × (slice_index place_parents kid ≡ place)) (kids place) same
      (split_spheres.node_data t place (omega (arith, le, far_in)) p))

  pub split_steady : AreSteadyBefore kids new_rows starts far before start
  split_steady = record {
    begins = λ t place le p. still t place le (places.there t place p);
    same = λ t a b le p q tie as_before so_too.
        steady.same t a b le (places.there t a p) (places.there t b q) tie
        (known t a le p (kids_still t a le p as_before)) (known t b le q (kids_still t b le q so_too));
  }
    where
      kids_still : (t place : ℕ) → t ≤ far → in_sphere new_rows starts t place
          → (t ≡ far → AllByRecursion (λ kid. slice_index start kid ≡ slice_index before kid) (kids place))
          → AllByRecursion (λ kid. slice_index start kid ≡ slice_index before kid) (kids place)
      kids_still t place le p outer = elim (cases_same t far) [
        | inl same ↦ outer same
        | inr differ ↦ all_by (λ kid h. still (suc t) kid (inner t le differ) (places.there (suc t) kid h.0))
            (kids place) (split_spheres.node_data t place (omega (arith, le, far_in)) p)
      ]
        where
          inner : (t : ℕ) → t ≤ far → t ≢ far → suc t ≤ far
          inner t le differ = elim (cases_lt t far) [
            | inl below ↦ omega (arith, below)
            | inr above ↦ absurd (differ (omega (arith, le, above)))
          ]

  pub passed : (key : ℕ → ℤ) (now : List ℕ)
      → OrdersPlaces (IsRow rows (slice_index starts (suc far)) (slice_index starts (suc (suc far))))
      (then_cmp (by_number old) (on key int_cmp)) start
      → Refines kids (in_sphere new_rows starts) far 0 start now
      → Passes kids (in_sphere rows starts) far key old now
  passed key now split refines = record {
    start = start;
    split = split;
    others = other;
    refines = record {
      ordered = λ t low high. record {
        each = λ a b p q. (refines.ordered t low high).each a b (places.here t a p) (places.here t b q);
      };
      inside = λ t place lt p. refines.inside t place lt (places.here t place p);
      outside = λ t place lt p. refines.outside t place lt (places.here t place p);
    };
  }

  -- what has to be looked at further in, by the numbers of old as by those of the sphere that is split
  module _ (now : List ℕ) (u : ℕ) (le : u ≤ far) where
    same : (row : ℕ) → slice_index starts u ≤ row → row < slice_index starts (suc u)
        → number_in new_rows start row ≡ number_in rows old row
    same row low high = other_number kids place_parents rows starts last old are (suc far) (omega (arith, far_in)) new_rows start
        kept u row (λ e. absurd (omega (arith, e, le))) low high

    above : (kid : ℕ) → in_sphere rows starts (suc u) kid
        → (slice_index starts u ≤ slice_index old (slice_index place_parents kid))
        × (slice_index start (slice_index place_parents kid) ≡ slice_index old (slice_index place_parents kid))
    above kid at =
        let parent_place = are.parent_place u kid (omega (arith, le, far_in)) at in (
          place_low rows old (slice_index starts u) (slice_index starts (suc u))
              (are.classed u (omega (arith, le, far_in))) (slice_index place_parents kid) parent_place,
          other u (slice_index place_parents kid) (λ e. absurd (omega (arith, e, le))) parent_place,
        )

    stirred_old : IsStirred place_parents new_rows starts before start now u → IsStirred place_parents rows starts before old now u
    stirred_old = stirred_moves place_parents starts before now u new_rows start rows old same (places.there (suc u))
        (λ kid at. above kid (places.there (suc u) kid at))

    stirred_new : IsStirred place_parents rows starts before old now u → IsStirred place_parents new_rows starts before start now u
    stirred_new = stirred_moves place_parents starts before now u rows old new_rows start
        (λ row low high. sym (same row low high)) (places.here (suc u))
        (λ kid at. let parent_place = above kid at in (subst (λ n. slice_index starts u ≤ n) (sym parent_place.1) parent_place.0, sym parent_place.1))

  pub innermost : (inner : ℕ) (now : List ℕ) → IsInnermost place_parents new_rows starts inner far before start now
      → IsInnermost place_parents rows starts inner far before old now
  innermost inner now was = record {
    high = was.high;
    dirty = record { each = λ u low le. stirred_old now u le (was.dirty.each u low le) };
    stands = λ u at dirty.
        let high = was.high in was.stands u at (stirred_new now u (omega (arith, at, high)) dirty);
  }

  -- what was turned from a sphere on
  module _ (inner : ℕ) (high : inner ≤ suc far) (now : List ℕ)
      (stand : StandBut new_rows starts inner far start now) where
    -- the first sphere is unchanged, unless it was reached
    pub tops_stand : 0 < inner → Stands rows starts 0 old now
    tops_stand some = record {
      each = λ place p.
          stand.each place (λ u low le q. let same = are.once 0 u place p (places.there u place q) in
          absurd (omega (arith, same, low, some)))
          ∙ other 0 place (λ e. absurd (omega (arith, e))) p;
    }

    -- outside these spheres all numbers are noted
    pub noted_after : (last_rows : List ℕ) → SamePlaces new_rows last_rows starts
        → AreNotedBut last_rows (slice_index starts inner) (slice_index starts (suc (suc far))) before now
    noted_after last_rows after = record {
      each = λ place none.
          let apart : (t : ℕ) → inner ≤ t → t ≤ suc far → in_sphere new_rows starts t place → ⊥ =
          λ t low le p. none (wider t place low le (after.here t place p)) in
          let new_one : in_sphere rows starts (suc far) place → ⊥ =
          λ p. apart (suc far) high (omega arith) (places.here (suc far) place p) in
          noted.each place new_one ∙ sym (kept.others place new_one)
          ∙ sym (stand.each place (λ t low le. apart t low (omega (arith, le))));
    }
      where
        wider : (t place : ℕ) → inner ≤ t → t ≤ suc far → in_sphere last_rows starts t place
            → IsRow last_rows (slice_index starts inner) (slice_index starts (suc (suc far))) place
        wider t place low le p =
            let from = rises_to kids place_parents rows starts last old are inner t low (omega (arith, le, far_in)) in
            let to = rises_to kids place_parents rows starts last old are (suc t) (suc (suc far)) (omega (arith, le))
            (omega (arith, far_in)) in
            record {
              row = p.row;
              low = omega (arith, p.low, from);
              high = omega (arith, p.high, to);
              here = p.here;
            }
