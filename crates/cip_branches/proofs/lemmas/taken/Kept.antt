-- Spheres stay ranked where a later rule begins in the first one, and where it is taken one sphere further.
use Rattle.std.proofs.Common.{◌≡◌, ◌≢◌, ◌<◌, ◌≤◌, ◌-◌, ℕ, ℤ, suc, Bool, List, length, slice_index, refl, sym, ap, ◌∙◌, subst, arith, inl, inr}
use Rattle.std.specs.declared.cmp.Ordering.TheVariants.{Equal}
use Rattle.std.specs.Ordering.{nat_cmp, int_cmp, then_cmp, on}
use Rattle.std.proofs.lemmas.Cmp.{tied_itself, nat_cmp_total}
use Rattle.cip_rank.specs.Comparison.{sorted_down}
use Rattle.cip_rank.specs.Ranking.{by_number}
use Rattle.cip_rank.proofs.lemmas.RestOnTies.{both_tie}
use Rattle.cip_rank.proofs.lemmas.Descending.{all_by}
use Rattle.cip_rank.proofs.lemmas.NumberedNodes.{equal_is}
use Rattle.cip_rank.proofs.lemmas.Parts.{map_alike}
use Rattle.cip_branches.specs.Deciding.{Branched, AreFollowed, FlagsOpen, KeepBranches}
use Rattle.cip_branches.specs.Following.{AreRanked}
use Rattle.cip_partition.specs.Kids.{kids_of, kid_set}
use Rattle.cip_partition.specs.PlaceTree.{PlaceTree}
use Rattle.cip_branches.specs.SphereColumns.{SphereColumns}
use Rattle.cip_partition.specs.Parting.{KeepsSphere, has_flag}
use Rattle.cip_branches.specs.Passing.{AreNotedBut, AreSteadyButNew, Passes}
use Rattle.cip_partition.specs.Keys.{key_of}
use Rattle.cip_partition.specs.Ranked.{Ranked}
use Rattle.cip_partition.specs.ReservedList.{ReservedList}
use Rattle.cip_branches.specs.Refining.{AreNext, AreSteady}
use Rattle.cip_partition.specs.Rows.{OrdersPlaces}
use Rattle.cip_branches.specs.Taking.{KeepsPlaces, SplitsFirst, Deepens}
use Rattle.cip_branches.specs.Turning.{in_sphere, AreSpheres, SamePlaces}
use Rattle.cip_branches.specs.Walking.{LastPlaces}
use Rattle.cip_partition.proofs.lemmas.Cases.{cases_same}
use Rattle.cip_branches.proofs.lemmas.refined.Kept.{other_place, places_kept, same_after, spheres_kept}
use Rattle.cip_branches.proofs.lemmas.ruled.Open.{open_again}
use Rattle.cip_branches.proofs.lemmas.refined.Steady.{steady_after}

-- what ties by numbers and then by keys ties by numbers
tied_by : (key : ℕ → ℤ) (before start : List ℕ) (a b : ℕ)
    → by_number start a b ≡ then_cmp (by_number before) (on key int_cmp) a b
    → slice_index start a ≡ slice_index start b → slice_index before a ≡ slice_index before b
tied_by key before start a b by tie =
    let equal : by_number start a b ≡ Equal = ap (λ n. nat_cmp n (slice_index start b)) tie
    ∙ tied_itself nat_cmp_total (slice_index start b) in
    equal_is (slice_index before a) (slice_index before b)
    (both_tie (by_number before a b) (int_cmp (key a) (key b)) (sym by ∙ equal)).0

-- what taking a rule one sphere further asks for
module _ (old : SphereColumns) (last : ℕ) (ranked : AreRanked old last) (far : ℕ) where
  pub deeper_noted : AreNotedBut old.ranked.rows (slice_index old.starts (suc far))
      (slice_index old.starts (suc (suc far))) old.before old.ranked.numbers
  deeper_noted = record { each = λ place none. ap (λ (ns : List ℕ). slice_index ns place) ranked.before }

  pub deeper_steady : far < last
      → AreSteadyButNew (kids_of old.place_tree) (in_sphere old.ranked.rows old.starts) far old.place_tree.room old.before
  deeper_steady lt = rw ranked.before (record {
    same = λ t a b le p q tie new_a new_b. ranked.steady t a b (omega (arith, le, lt)) p q tie;
  })

module _ (old : SphereColumns) (last : ℕ) (was : AreRanked old last) (new : Ranked) (before : List ℕ)
    (noted : before ≡ new.numbers) where
  abbrev kids : ℕ → List ℕ
  kids = kids_of old.place_tree

  abbrev At : ℕ → ℕ → Type 0
  At = in_sphere old.ranked.rows old.starts

  abbrev now : SphereColumns
  now = record old { ranked = new; before = before }

  -- the first sphere is split
  module _ (kept : KeepsSphere (slice_index old.starts 0) (slice_index old.starts 1) old.ranked.rows new.rows
      old.ranked.numbers new.numbers) where
    pub first_places : SamePlaces old.ranked.rows new.rows old.starts
    first_places = places_kept kids old.place_tree.place_parents old.ranked.rows old.starts last old.ranked.numbers was.spheres 0
        (omega arith) new.rows new.numbers kept

    pub first_others : (t place : ℕ) → t ≢ 0 → At t place
        → slice_index new.numbers place ≡ slice_index old.ranked.numbers place
    first_others t place differ p = other_place kids old.place_tree.place_parents old.ranked.rows old.starts last old.ranked.numbers
        was.spheres 0 (omega arith) new.rows new.numbers kept t place differ p

    module _ (keys : List ℤ) (split : OrdersPlaces (At 0) (then_cmp (by_number old.ranked.numbers)
        (on (key_of keys old.place_tree) int_cmp)) new.numbers) where
      set_stays : (t place : ℕ) → t < last → At t place
          → kid_set kids new.numbers place ≡ kid_set kids old.ranked.numbers place
      set_stays t place lt p = ap (sorted_down nat_cmp) (map_alike (slice_index new.numbers)
          (slice_index old.ranked.numbers) (kids place)
          (all_by (λ kid h. first_others (suc t) kid (λ e. absurd (omega (arith, e))) h.0) (kids place)
          (was.spheres.node_data t place lt p)))

      tied_before : (t a b : ℕ) → At t a → At t b → slice_index new.numbers a ≡ slice_index new.numbers b
          → slice_index old.ranked.numbers a ≡ slice_index old.ranked.numbers b
      tied_before t a b p q tie = elim (cases_same t 0) [
        | inl first ↦ tied_by (key_of keys old.place_tree) old.ranked.numbers new.numbers a b
            (split.each a b (subst (λ u. At u a) first p) (subst (λ u. At u b) first q)) tie
        | inr differ ↦ sym (first_others t a differ p) ∙ tie ∙ first_others t b differ q
      ]

      pub first_splits : new.room ≡ old.ranked.room → SplitsFirst old keys now
      first_splits same_room = record {
        kept = record { places = first_places; place_tree = refl; starts = refl; room = same_room };
        split = split;
        others = first_others;
      }

      pub first_ranked : AreRanked now last
      first_ranked =
          let places = first_places in
          record {
            spheres = spheres_kept kids old.place_tree.place_parents old.ranked.rows old.starts last old.ranked.numbers was.spheres 0
                (omega arith) new.rows new.numbers kept;
            count = was.count;
            ends = was.ends ∙ sym places.len;
            before = noted;
            steady = λ t a b lt p q tie.
                let in_a = places.there t a p in
                let in_b = places.there t b q in
                set_stays t a lt in_a
                ∙ was.steady t a b lt in_a in_b (tied_before t a b in_a in_b tie)
                ∙ sym (set_stays t b lt in_b);
          }

  -- a rule is taken to the sphere after `far`
  module _ (far : ℕ) (lt : far < last) (keys : List ℤ)
      (passed : Passes kids At far (key_of keys old.place_tree) old.ranked.numbers new.numbers)
      (places : SamePlaces old.ranked.rows new.rows old.starts)
      (spheres : AreSpheres kids old.place_tree.place_parents new.rows old.starts last new.numbers) where
    tied_at_start : (t a b : ℕ) → At t a → At t b → slice_index passed.start a ≡ slice_index passed.start b
        → slice_index old.ranked.numbers a ≡ slice_index old.ranked.numbers b
    tied_at_start t a b p q tie = elim (cases_same t (suc far)) [
      | inl new_one ↦ tied_by (key_of keys old.place_tree) old.ranked.numbers passed.start a b
          (passed.split.each a b (subst (λ u. At u a) new_one p) (subst (λ u. At u b) new_one q)) tie
      | inr differ ↦ sym (passed.others t a differ p) ∙ tie ∙ passed.others t b differ q
    ]

    next : AreNext kids At (last - 1)
    next = record {
      next = λ t place le p. all_by (λ kid h. h.0) (kids place) (was.spheres.node_data t place (omega (arith, le, lt)) p);
    }

    steady : AreSteady kids At (last - 1) new.numbers
    steady = steady_after kids At (last - 1) far old.ranked.numbers passed.start new.numbers (omega (arith, lt)) next
        (λ t a b beyond le p q tie. was.steady t a b (omega (arith, le, lt)) p q tie)
        (λ t a b beyond le p q tie. tied_at_start t a b p q tie)
        (λ t place beyond p. passed.others t place (λ e. absurd (omega (arith, e, beyond))) p)
        passed.refines

    pub deeper_is : new.room ≡ old.ranked.room → Deepens old far keys now
    deeper_is same_room = record {
      kept = record { places = places; place_tree = refl; starts = refl; room = same_room };
      passed = passed;
    }

    pub deeper_ranked : AreRanked now last
    deeper_ranked = record {
      spheres = spheres;
      count = was.count;
      ends = was.ends ∙ sym places.len;
      before = noted;
      steady = λ t a b low p q tie. steady.same t a b (omega (arith, low, lt)) (places.there t a p) (places.there t b q)
          tie;
    }

-- places that are kept twice are kept
pub kept_on : (one two three : SphereColumns) → KeepsPlaces one two → KeepsPlaces two three → KeepsPlaces one three
kept_on one two three first second = record {
  places = same_after one.ranked.rows two.ranked.rows three.ranked.rows one.starts first.places
      (subst (λ ss. SamePlaces two.ranked.rows three.ranked.rows ss) first.starts second.places);
  place_tree = second.place_tree ∙ first.place_tree;
  starts = second.starts ∙ first.starts;
  room = second.room ∙ first.room;
}

-- the last places are unchanged where places are kept
last_kept : (old new : SphereColumns) → KeepsPlaces old new → (flags : List Bool) (first last : ℕ)
    → LastPlaces old flags first last → LastPlaces new flags first last
last_kept old new kept flags first last lasts = record {
  low = λ p at. lasts.low p (was last p at);
  high = λ p at. rw kept.place_tree (lasts.high p (was last p at));
  back = λ p low high is. rw kept.starts
      (kept.places.here last p (lasts.back p low (known p high)
      (sym (ap (λ (k : PlaceTree). has_flag flags (slice_index k.branches p)) kept.place_tree) ∙ is)));
  inner = λ t p lt at. lasts.inner t p lt (was t p at);
  bare = λ p low high. ap (λ (k : PlaceTree). slice_index k.counts p) kept.place_tree ∙ lasts.bare p low (known p high);
}
  where
    was : (t p : ℕ) → in_sphere new.ranked.rows new.starts t p → in_sphere old.ranked.rows old.starts t p
    was t p at = kept.places.there t p (subst (λ ss. in_sphere new.ranked.rows ss t p) kept.starts at)

    known : (p : ℕ) → p < length new.place_tree.place_parents → p < length old.place_tree.place_parents
    known p lt = subst (λ (k : PlaceTree). p < length k.place_parents) kept.place_tree lt

-- where the places stay, each of them has its entries still
pub columns_kept : {old new : SphereColumns} {unresolved next_unresolved : ReservedList Bool} → new.place_tree ≡ old.place_tree
    → KeepBranches old unresolved next_unresolved → KeepBranches new unresolved next_unresolved
columns_kept {unresolved = unresolved} same was = record {
  wanted_room = was.wanted_room ∙ sym (ap (λ (k : PlaceTree). k.room) same);
  opens_room = was.opens_room ∙ sym (ap (λ (k : PlaceTree). k.room) same);
  tops = subst (λ (k : PlaceTree). length unresolved.items ≤ length k.place_parents) (sym same) was.tops;
  opens_len = was.opens_len;
}

pub followed_kept : (old new : Branched) → AreFollowed old → KeepsPlaces old.layers new.layers
    → AreRanked new.layers old.last → new.first ≡ old.first → new.last ≡ old.last
    → FlagsOpen new.layers.ranked.numbers old.unresolved new.unresolved → AreFollowed new
followed_kept old new followed kept ranked first last chosen = record {
  ranked = subst (AreRanked new.layers) (sym last) ranked;
  places = λ flags. rw (last, first)
      (last_kept old.layers new.layers kept flags old.first old.last (followed.places flags));
  within = rw (kept.place_tree, first) followed.within;
  nodes_len = ap (λ (k : PlaceTree). length k.nodes) kept.place_tree ∙ followed.nodes_len
      ∙ sym (ap (λ (k : PlaceTree). length k.place_parents) kept.place_tree);
  chosen = record {
    tie = open_again new.layers.ranked.numbers old.unresolved new.unresolved chosen;
    top = λ branch has. rw kept.starts
        (kept.places.here 0 branch (followed.chosen.top branch (chosen.fewer.each branch has)));
  };
}
