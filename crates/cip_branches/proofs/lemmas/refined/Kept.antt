-- One sphere whose classes were split: all spheres are still such, with the same places.
use Rattle.std.proofs.Common.{◌≡◌, ◌≢◌, ◌<◌, ◌≤◌, ◌+◌, ◌-◌, ◌⊎◌, ℕ, zero, suc, List, slice_index, refl, sym, ap, ◌∙◌, subst, arith, inl, inr}
use Rattle.std.proofs.lemmas.Bool.{cases_order}
use Rattle.cip_rank.proofs.lemmas.Descending.{all_by}
use Rattle.cip_partition.specs.Parting.{KeepsSphere}
use Rattle.cip_partition.specs.Rows.{number_in, AreClassed}
use Rattle.cip_branches.specs.Turning.{in_sphere, AreSpheres, SamePlaces}
use Rattle.cip_partition.proofs.lemmas.Cases.{cases_same}

pub kept_itself : (from to : ℕ) (rows numbers : List ℕ) → AreClassed rows numbers from to
    → KeepsSphere from to rows rows numbers numbers
kept_itself from to rows numbers classed = record {
  classed = classed;
  there = λ place p. p;
  back = λ place p. p;
  kept = record { len = refl; before = λ k lt. refl; behind = λ k le. refl };
  others = λ place none. refl;
  len = refl;
}

-- rows whose numbers are those of before are classed as before
pub classed_moves : (rows new_rows numbers new : List ℕ) (first past : ℕ)
    → ((k : ℕ) → first ≤ k → k < past → number_in new_rows new k ≡ number_in rows numbers k)
    → AreClassed rows numbers first past → AreClassed new_rows new first past
classed_moves rows new_rows numbers new first past same was = record {
  head = λ some. same first (omega arith) some ∙ was.head some;
  next = λ row low high. elim (was.next row low high) [
    | inl alike ↦ inl (same (row + 1) (omega (arith, low)) high ∙ alike ∙ sym (same row low (omega (arith, high))))
    | inr begins ↦ inr (same (row + 1) (omega (arith, low)) high ∙ begins)
  ];
}

pub same_itself : (rows starts : List ℕ) → SamePlaces rows rows starts
same_itself rows starts = record { here = λ t place p. p; there = λ t place p. p; len = refl }

pub same_after : (rows mid_rows new_rows starts : List ℕ) → SamePlaces rows mid_rows starts
    → SamePlaces mid_rows new_rows starts → SamePlaces rows new_rows starts
same_after rows mid_rows new_rows starts one two = record {
  here = λ t place p. two.here t place (one.here t place p);
  there = λ t place p. one.there t place (two.there t place p);
  len = two.len ∙ one.len;
}

module _ (kids : ℕ → List ℕ) (place_parents rows starts : List ℕ) (last : ℕ) (numbers : List ℕ)
    (are : AreSpheres kids place_parents rows starts last numbers) where
  rise_by : (t more : ℕ) → t + more ≤ suc last → slice_index starts t ≤ slice_index starts (t + more)
  rise_by t zero le =
      let none : t + 0 ≡ t = omega arith in
      subst (λ u. slice_index starts t ≤ slice_index starts u) (sym none) (omega arith)
  rise_by t (suc more) le =
      let next : t + suc more ≡ suc (t + more) = omega arith in
      let before = rise_by t more (omega (arith, le)) in
      let one = are.rise (t + more) (omega (arith, le)) in
      subst (λ u. slice_index starts t ≤ slice_index starts u) (sym next) (omega (arith, before, one))

  pub rises_to : (t u : ℕ) → t ≤ u → u ≤ suc last → slice_index starts t ≤ slice_index starts u
  rises_to t u le high =
      let place : t + (u - t) ≡ u = omega (arith, le) in
      subst (λ v. slice_index starts t ≤ slice_index starts v) place (rise_by t (u - t) (omega (arith, le, high)))

  module _ (s : ℕ) (le : s ≤ last) (new_rows new : List ℕ)
      (kept : KeepsSphere (slice_index starts s) (slice_index starts (suc s)) rows new_rows numbers new) where
    -- rows of other spheres
    apart : (u row : ℕ) → u ≢ s → slice_index starts u ≤ row → row < slice_index starts (suc u)
        → (row < slice_index starts s) ⊎ (slice_index starts (suc s) ≤ row)
    apart u row differ low high = elim (cases_order u s) [
      | inl same ↦ absurd (differ same)
      | inr (inl inner) ↦ let parent_place = rises_to (suc u) s (omega (arith, inner)) (omega (arith, le)) in
          inl (omega (arith, high, parent_place))
      | inr (inr outer) ↦
          let bound = are.ends u row low high in
          let parent_place = rises_to (suc s) u (omega (arith, outer)) (omega (arith, bound)) in
          inr (omega (arith, low, parent_place))
    ]

    other_row : (u row : ℕ) → u ≢ s → slice_index starts u ≤ row → row < slice_index starts (suc u)
        → slice_index new_rows row ≡ slice_index rows row
    other_row u row differ low high = elim (apart u row differ low high) [
      | inl before ↦ kept.kept.before row before
      | inr behind ↦ kept.kept.behind row behind
    ]

    -- the number of a place of another sphere is unchanged
    pub other_place : (u place : ℕ) → u ≢ s → in_sphere rows starts u place
        → slice_index new place ≡ slice_index numbers place
    other_place u place differ p = kept.others place (λ is. differ (are.once u s place p is))

    pub places_kept : SamePlaces rows new_rows starts
    places_kept = record {
      here = λ u place p. elim (cases_same u s) [
        | inl same ↦ rw same (kept.back place (subst (λ v. in_sphere rows starts v place) same p))
        | inr differ ↦ record {
          row = p.row;
          low = p.low;
          high = p.high;
          here = other_row u p.row differ p.low p.high ∙ p.here;
        }
      ];
      there = λ u place p. elim (cases_same u s) [
        | inl same ↦ rw same (kept.there place (subst (λ v. in_sphere new_rows starts v place) same p))
        | inr differ ↦ record {
          row = p.row;
          low = p.low;
          high = p.high;
          here = sym (other_row u p.row differ p.low p.high) ∙ p.here;
        }
      ];
      len = kept.kept.len;
    }

    pub other_number : (u k : ℕ) → u ≢ s → slice_index starts u ≤ k → k < slice_index starts (suc u)
        → number_in new_rows new k ≡ number_in rows numbers k
    other_number u k differ low high =
        ap (slice_index new) (other_row u k differ low high)
        ∙ other_place u (slice_index rows k) differ (record { row = k; low = low; high = high; here = refl })

    pub spheres_kept : AreSpheres kids place_parents new_rows starts last new
    spheres_kept =
        let places = places_kept in
        record {
          rise = are.rise;
          ends = are.ends;
          within = λ t low. let was = are.within t low in let len = kept.kept.len in omega (arith, was, len);
          classed = λ u high. elim (cases_same u s) [
            | inl same ↦ rw same kept.classed
            | inr differ ↦ classed_moves rows new_rows numbers new (slice_index starts u) (slice_index starts (suc u))
                (λ k l h. other_number u k differ l h) (are.classed u high)
          ];
          once = λ t u place p q. are.once t u place (places.there t place p) (places.there u place q);
          node_data = λ t place lt p. all_by (λ kid h. (places.here (suc t) kid h.0, h.1)) (kids place)
              (are.node_data t place lt (places.there t place p));
          parent_place = λ t place lt p. places.here t (slice_index place_parents place) (are.parent_place t place lt (places.there (suc t) place p));
        }
