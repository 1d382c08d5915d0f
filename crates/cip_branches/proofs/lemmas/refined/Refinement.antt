-- What one turn inwards needs, and what it leaves.
use Rattle.std.proofs.Common.{◌≡◌, ◌<◌, ◌≤◌, ◌+◌, ◌-◌, ℕ, zero, suc, List, length, slice_index, refl, sym, ap, ◌∙◌, subst, arith}
use Rattle.std.specs.List.{AllByRecursion}
use Rattle.std.specs.Ordering.{nat_cmp}
use Rattle.cip_rank.specs.Comparison.{sorted_down}
use Rattle.cip_rank.proofs.lemmas.Descending.{all_by}
use Rattle.cip_rank.proofs.lemmas.Parts.{map_alike}
use Rattle.cip_partition.specs.Kids.{by_kids, kids_of}
use Rattle.cip_branches.specs.SphereColumns.{SphereColumns}
use Rattle.cip_partition.specs.Parting.{KeepsSphere}
use Rattle.cip_branches.specs.Refining.{AreNext}
use Rattle.cip_partition.specs.Rows.{IsRow, AreClassed, OrdersPlaces}
use Rattle.cip_partition.specs.Stirring.{IsAbove, KnowParents, TieUnlessStirred}
use Rattle.cip_branches.specs.Turning.{in_sphere, AreSpheres, AreSteadyBefore, AreStirred, IsStirred, Refinement}
use Rattle.cip_partition.proofs.lemmas.Cases.{both}
use Rattle.cip_branches.proofs.lemmas.refined.Inwards.{refines_none, refines_step}
use Rattle.cip_branches.proofs.lemmas.refined.Kept.{kept_itself, same_itself, same_after, other_place, places_kept, spheres_kept}
use Rattle.cip_branches.proofs.lemmas.refined.Dirty.{above_is, stirred_is, stirred_on}
use Rattle.cip_branches.proofs.lemmas.refined.KidSets.{still_ordered}

module _ (kids : ℕ → List ℕ) (place_parents rows starts : List ℕ) (last : ℕ) (start : List ℕ)
    (are : AreSpheres kids place_parents rows starts last start) (far : ℕ) (far_in : far < last) where
  abbrev At : ℕ → ℕ → Type 0
  At = in_sphere rows starts

  are_next : AreNext kids At far
  are_next = record {
    next = λ t place le p. all_by (λ kid h. h.0) (kids place) (are.node_data t place (omega (arith, le, far_in)) p);
  }

  pub begun : Refinement kids place_parents rows starts far last start (suc far) rows start
  begun = record {
    refines = refines_none kids At far are_next start;
    places = same_itself rows starts;
    spheres = are;
    stand = record { each = λ place none. refl };
    still = λ row lt. refl;
  }

  module _ (s : ℕ) (le : s ≤ far) (mid_rows mid : List ℕ)
      (refinement : Refinement kids place_parents rows starts far last start (suc s) mid_rows mid) where
    was_at : (place : ℕ) → in_sphere mid_rows starts s place → At s place
    was_at place p = refinement.places.there s place p

    pub parents_now : KnowParents kids place_parents mid_rows (slice_index starts s) (slice_index starts (suc s))
        (slice_index starts (suc (suc s)))
    parents_now = record {
      node_data = λ place p. refinement.spheres.node_data s place (omega (arith, le, far_in)) p;
      parent_place = λ k low high. refinement.spheres.parent_place s (slice_index mid_rows k) (omega (arith, le, far_in))
          (record { row = k; low = low; high = high; here = refl });
    }

    pub tie_now : (before : List ℕ) → AreSteadyBefore kids rows starts far before start
        → TieUnlessStirred kids before mid_rows mid (slice_index starts s) (slice_index starts (suc s))
    tie_now before steady = record {
      same = λ a b p q tie as_before so_too.
          let at_a = was_at a p in
          let at_b = was_at b q in
          let was_tied : slice_index before a ≡ slice_index before b = sym (was a at_a) ∙ tie ∙ was b at_b in
          ap (sorted_down nat_cmp) (map_alike (slice_index mid) (slice_index before) (kids a) as_before)
          ∙ steady.same s a b le at_a at_b was_tied (λ e. outer a at_a e as_before) (λ e. outer b at_b e so_too)
          ∙ sym (ap (sorted_down nat_cmp) (map_alike (slice_index mid) (slice_index before) (kids b) so_too));
    }
      where
        was : (place : ℕ) → At s place → slice_index mid place ≡ slice_index before place
        was place p = refinement.refines.inside s place (omega arith) p ∙ steady.begins s place le p

        outer : (place : ℕ) → At s place → s ≡ far
            → AllByRecursion (λ kid. slice_index mid kid ≡ slice_index before kid) (kids place)
            → AllByRecursion (λ kid. slice_index start kid ≡ slice_index before kid) (kids place)
        outer place p e all = all_by (λ kid h. sym (refinement.refines.outside (suc s) kid (omega (arith, e)) h.1) ∙ h.0)
            (kids place) (both (λ kid. slice_index mid kid ≡ slice_index before kid) (At (suc s)) (kids place) all
            (are_next.next s place le p))

    pub turned : (new_rows new : List ℕ)
        → KeepsSphere (slice_index starts s) (slice_index starts (suc s)) mid_rows new_rows mid new
        → OrdersPlaces (IsRow mid_rows (slice_index starts s) (slice_index starts (suc s))) (by_kids kids mid) new
        → Refinement kids place_parents rows starts far last start s new_rows new
    turned new_rows new kept ordered =
        let in_last : s ≤ last = omega (arith, le, far_in) in
        record {
          refines = refines_step kids At far are_next start mid new s le refinement.refines
              (λ u place differ p. other_place kids place_parents mid_rows starts last mid refinement.spheres s in_last new_rows new
              kept u place differ (refinement.places.here u place p))
              (record { each = λ a b p q. ordered.each a b (refinement.places.here s a p) (refinement.places.here s b q) });
          places = same_after rows mid_rows new_rows starts refinement.places (places_kept kids place_parents mid_rows starts last mid
              refinement.spheres s in_last new_rows new kept);
          spheres = spheres_kept kids place_parents mid_rows starts last mid refinement.spheres s in_last new_rows new kept;
          stand = record {
            each = λ place none. kept.others place (λ p. none s (omega arith) le (was_at place p))
                ∙ refinement.stand.each place (λ u low high. none u (omega (arith, low)) high);
          };
          still = λ row lt. kept.kept.before row lt
              ∙ refinement.still row (let rise = are.rise s in_last in omega (arith, lt, rise));
        }

    pub keeps_itself : KeepsSphere (slice_index starts s) (slice_index starts (suc s)) mid_rows mid_rows mid mid
    keeps_itself = kept_itself _ _ mid_rows mid (refinement.spheres.classed s (omega (arith, le, far_in)))

  -- where the places of a sphere are unchanged, so are all further in
  pub stood : (before mid_rows mid : List ℕ) → AreSteadyBefore kids rows starts far before start → (s : ℕ) → s ≤ far
      → Refinement kids place_parents rows starts far last start s mid_rows mid
      → ((place : ℕ) → At s place → slice_index mid place ≡ slice_index start place)
      → Refinement kids place_parents rows starts far last start 0 mid_rows mid
  stood before mid_rows mid steady zero le refinement same = refinement
  stood before mid_rows mid steady (suc s) le refinement same =
      let ties = tie_now s (omega (arith, le)) mid_rows mid refinement before steady in
      let here = was_at s (omega (arith, le)) mid_rows mid refinement in
      let calm : (a : ℕ) → in_sphere mid_rows starts s a
      → AllByRecursion (λ kid. slice_index mid kid ≡ slice_index before kid) (kids a) =
      λ a p. all_by (λ kid h. same kid h.0 ∙ steady.begins (suc s) kid le h.0) (kids a)
      (are.node_data s a (omega (arith, le, far_in)) (here a p)) in
      stood before mid_rows mid steady s (omega (arith, le))
      (turned s (omega (arith, le)) mid_rows mid refinement mid_rows mid
      (keeps_itself s (omega (arith, le)) mid_rows mid refinement)
      (still_ordered kids (IsRow mid_rows (slice_index starts s) (slice_index starts (suc s))) (λ n. Unit {0}) mid
      (record { same = λ a b p q tie _. ties.same a b p q tie (calm a p) (calm b q) }) (λ place p. tt)))
      (λ place p. refinement.refines.inside s place (omega arith) p)

-- what the code reads of the starts
pub read_at : (starts : List ℕ) (t row read : ℕ) → read ≡ slice_index starts t → t ≡ row → slice_index starts row ≡ read
read_at starts t row read is at = ap (slice_index starts) (sym at) ∙ sym is

-- a sphere as the code finds it
pub record FoundSphere (rows numbers : List ℕ) (from to : ℕ) : Type 0 where
  pub ordered : from ≤ to
  pub within : to ≤ length rows
  pub classed : AreClassed rows numbers from to

pub found_sphere : (kids : ℕ → List ℕ) (place_parents rows starts : List ℕ) (last : ℕ) (numbers : List ℕ)
    → AreSpheres kids place_parents rows starts last numbers → (t from to : ℕ) → t ≤ last → slice_index starts t ≡ from
    → slice_index starts (suc t) ≡ to → FoundSphere rows numbers from to
found_sphere kids place_parents rows starts last numbers are t from to le from_is to_is =
    subst (λ n. FoundSphere rows numbers n to) from_is (subst (FoundSphere rows numbers (slice_index starts t)) to_is
    (record { ordered = are.rise t le; within = are.within t le; classed = are.classed t le }))

-- what a turn asks for
pub record Asks (now : SphereColumns) (from to past : ℕ) : Type 0 where
  pub ordered : from ≤ to
  pub behind : to ≤ past
  pub within : past ≤ length now.ranked.rows
  pub classed : AreClassed now.ranked.rows now.ranked.numbers from to
  pub parents : KnowParents (kids_of now.place_tree) now.place_tree.place_parents now.ranked.rows from to past
  pub tie : TieUnlessStirred (kids_of now.place_tree) now.before now.ranked.rows now.ranked.numbers from to

-- The same as the code finds the spheres, at t - 1, where those from t on are refined; and what the turn leaves, of a
-- sphere that was looked at and of one that is unchanged.
pub record Given (first now : SphereColumns) (last far t from to past : ℕ) : Type 0 where
  pub asks : Asks now from to past
  pub turned : (new_rows new : List ℕ)
      → OrdersPlaces (IsRow now.ranked.rows from to) (by_kids (kids_of now.place_tree) now.ranked.numbers) new
      → KeepsSphere from to now.ranked.rows new_rows now.ranked.numbers new
      → Refinement (kids_of first.place_tree) first.place_tree.place_parents first.ranked.rows first.starts far last first.ranked.numbers (t - 1)
      new_rows new
  pub stopped : OrdersPlaces (IsRow now.ranked.rows from to) (by_kids (kids_of now.place_tree) now.ranked.numbers)
      now.ranked.numbers
      → Refinement (kids_of first.place_tree) first.place_tree.place_parents first.ranked.rows first.starts far last first.ranked.numbers 0
      now.ranked.rows now.ranked.numbers
  pub dirty : (new_rows new : List ℕ) → KeepsSphere from to now.ranked.rows new_rows now.ranked.numbers new
      → (number : ℕ) × IsAbove now.place_tree.place_parents now.ranked.rows now.before now.ranked.numbers to past number
      → AreStirred first.place_tree.place_parents first.ranked.rows first.starts t far first.before first.ranked.numbers
      now.ranked.numbers
      → AreStirred first.place_tree.place_parents first.ranked.rows first.starts (t - 1) far first.before first.ranked.numbers new
  pub stands : ((number : ℕ) × IsAbove now.place_tree.place_parents now.ranked.rows now.before now.ranked.numbers to past number → ⊥)
      → (u : ℕ) → t ≡ suc u
      → IsStirred first.place_tree.place_parents first.ranked.rows first.starts first.before first.ranked.numbers now.ranked.numbers u
      → ⊥

module _ (first now : SphereColumns) (others : now ≡ record first { ranked = now.ranked }) (last far t from to past : ℕ)
    (are : AreSpheres (kids_of first.place_tree) first.place_tree.place_parents first.ranked.rows first.starts last first.ranked.numbers)
    (far_in : far < last) (some : 0 < t) (high : t ≤ far + 1)
    (refinement : Refinement (kids_of first.place_tree) first.place_tree.place_parents first.ranked.rows first.starts far last first.ranked.numbers t
    now.ranked.rows now.ranked.numbers)
    (from_is : slice_index first.starts (t - 1) ≡ from) (to_is : slice_index first.starts (suc (t - 1)) ≡ to)
    (past_is : slice_index first.starts (suc (suc (t - 1))) ≡ past)
    (steady : AreSteadyBefore (kids_of first.place_tree) first.ranked.rows first.starts far first.before first.ranked.numbers)
  where
    abbrev kids : ℕ → List ℕ
    kids = kids_of first.place_tree

    abbrev place_parents : List ℕ
    place_parents = first.place_tree.place_parents

    abbrev rows : List ℕ
    rows = first.ranked.rows

    abbrev start : List ℕ
    start = first.ranked.numbers

    abbrev mid_rows : List ℕ
    mid_rows = now.ranked.rows

    abbrev mid : List ℕ
    mid = now.ranked.numbers

    le : t - 1 ≤ far
    le = omega (arith, some, high)

    done : Refinement kids place_parents rows first.starts far last start (suc (t - 1)) mid_rows mid
    done = let back : t ≡ suc (t - 1) = omega (arith, some) in
        subst (λ n. Refinement kids place_parents rows first.starts far last start n mid_rows mid) back refinement

    -- in terms of where the sphere and the next one begin
    at_starts : (P : ℕ → ℕ → ℕ → Type 0) → P (slice_index first.starts (t - 1)) (slice_index first.starts (suc (t - 1)))
        (slice_index first.starts (suc (suc (t - 1)))) → P from to past
    at_starts P p = rw (sym from_is, sym to_is, sym past_is) p

    asks : Asks now from to past
    asks = at_starts (Asks now) (rw others (record {
      ordered = are.rise (t - 1) (omega (arith, le, far_in));
      behind = are.rise (suc (t - 1)) (omega (arith, le, far_in));
      within =
          let was = are.within (suc (t - 1)) (omega (arith, le, far_in)) in
          omega (arith, was, refinement.places.len);
      classed = refinement.spheres.classed (t - 1) (omega (arith, le, far_in));
      parents = parents_now kids place_parents rows first.starts last start are far far_in (t - 1) le mid_rows mid done;
      tie = tie_now kids place_parents rows first.starts last start are far far_in (t - 1) le mid_rows mid done first.before
          steady;
    }))

    -- by the same family
    family_is : (new : List ℕ) → OrdersPlaces (IsRow mid_rows from to) (by_kids (kids_of now.place_tree) mid) new
        → OrdersPlaces (IsRow mid_rows from to) (by_kids kids mid) new
    family_is new ordered = subst (λ (s : SphereColumns). OrdersPlaces (IsRow mid_rows from to) (by_kids (kids_of s.place_tree) mid)
        new) others ordered

    kept_at : (new_rows new : List ℕ) → KeepsSphere from to mid_rows new_rows mid new
        → KeepsSphere (slice_index first.starts (t - 1)) (slice_index first.starts (suc (t - 1))) mid_rows new_rows mid
        new
    kept_at new_rows new kept =
        rw (from_is, to_is) kept

    turned_at : (new_rows new : List ℕ)
        → OrdersPlaces (IsRow mid_rows from to) (by_kids (kids_of now.place_tree) mid) new
        → KeepsSphere from to mid_rows new_rows mid new
        → Refinement kids place_parents rows first.starts far last start (t - 1) new_rows new
    turned_at new_rows new ordered kept =
        turned kids place_parents rows first.starts last start are far far_in (t - 1) le mid_rows mid done new_rows new
        (kept_at new_rows new kept)
        (rw (from_is, to_is) (family_is new ordered))

    -- where the sphere was unchanged, so were all further in
    stopped_at : OrdersPlaces (IsRow mid_rows from to) (by_kids (kids_of now.place_tree) mid) mid
        → Refinement kids place_parents rows first.starts far last start 0 mid_rows mid
    stopped_at ordered =
        stood kids place_parents rows first.starts last start are far far_in first.before mid_rows mid steady (t - 1) le
        (turned_at mid_rows mid ordered (rw (sym from_is, sym to_is)
        (keeps_itself kids place_parents rows first.starts last start are far far_in (t - 1) le mid_rows mid done)))
        (λ place p. done.refines.inside (t - 1) place (omega arith) p)

    -- some class above a place that has another number than before
    abbrev Found : SphereColumns → ℕ → ℕ → Type 0
    Found holder behind beyond = (number : ℕ) × IsAbove holder.place_tree.place_parents mid_rows holder.before mid behind beyond number

    abbrev Dirty : ℕ → List ℕ → Type 0
    Dirty = λ n new. AreStirred place_parents rows first.starts n far first.before start new

    found_at : Found now to past → IsStirred place_parents rows first.starts first.before start mid (t - 1)
    found_at = at_starts (λ low behind beyond. Found now behind beyond → IsStirred place_parents rows first.starts first.before
        start mid (t - 1))
        (λ found. stirred_is kids place_parents rows first.starts last start are far far_in first.before (t - 1) le mid_rows mid
        done (subst (λ (s : SphereColumns). Found s (slice_index first.starts (suc (t - 1)))
        (slice_index first.starts (suc (suc (t - 1))))) others found))

    found_back : IsStirred place_parents rows first.starts first.before start mid (t - 1) → Found now to past
    found_back dirty = at_starts (λ low behind beyond. Found now behind beyond) (subst (λ (s : SphereColumns). Found s
        (slice_index first.starts (suc (t - 1))) (slice_index first.starts (suc (suc (t - 1))))) (sym others)
        (above_is kids place_parents rows first.starts last start are far far_in first.before (t - 1) le mid_rows mid done
        dirty))

    stirred_at : (new_rows new : List ℕ) → KeepsSphere from to mid_rows new_rows mid new → Found now to past
        → Dirty t mid → Dirty (t - 1) new
    stirred_at new_rows new kept found all =
        stirred_on kids place_parents rows first.starts last start are far far_in first.before (t - 1) le mid_rows mid done
        new_rows new (kept_at new_rows new kept) (found_at found)
        (let back : t ≡ suc (t - 1) = omega (arith, some) in subst (λ n. Dirty n mid) back all)

    pub given : Given first now last far t from to past
    given = record {
      asks = asks;
      turned = turned_at;
      stopped = stopped_at;
      dirty = stirred_at;
      stands = λ none u at dirty. none (found_back (let below : u ≡ t - 1 = omega (arith, at) in
          subst (IsStirred place_parents rows first.starts first.before start mid) below dirty));
    }
