-- Items that are put to the places of a permutation, one after the other: each of them is at its place, and they
-- are the same items.
use Rattle.std.proofs.Common.{◌≡◌, ◌<◌, ◌+◌, ℕ, List, map, length, get_or, set, All, sym, ap, subst, ◌∙◌, inl, inr, arith}
use Rattle.std.specs.List.{range_with_len}
use Rattle.std.specs.List.Sorted.{IsPermutation}
use Rattle.std.proofs.lemmas.Bool.{cases_eq, cases_lt}
use Rattle.std.proofs.lemmas.List.{get_or_default, get_or-map, get_or-set_same, get_or-set_other, length-map, length-set, same_lists}
use Rattle.std.proofs.lemmas.List.Elements.{All-from_get_or, All-get_or}
use Rattle.std.proofs.lemmas.List.FromFn.{fill_by_all, get_or-map-range_with_len, length-map-range_with_len}
use Rattle.std.proofs.lemmas.List.Sorted.{IsPermutation-map, IsPermutation-sym}
use Rattle.cip_mol.specs.Permutations.{ArePlaces}
use Rattle.cip_mol.specs.RenumberedDrawing.{index_of, placed, place_of}
use Rattle.cip_mol.proofs.lemmas.Permutations.{as_many, place_below, index_below, place_of_index, index_of_place}

-- n of the items are at their places
pub record StandAtPlaces {X : Type 0} (places : List ℕ) (items : List X) (count : ℕ) (there : List X) : Type 0 where
  pub len : length there ≡ length items
  pub each : (place : ℕ) → place < length items → index_of place places < count → (d : X) →
      get_or there place d ≡ get_or items (index_of place places) d

pub none_stands : {X : Type 0} (places : List ℕ) (items there : List X) → length there ≡ length items →
    StandAtPlaces places items 0 there
none_stands places items there long = record { len = long; each = λ place within lt d. absurd (omega (arith, lt)) }

module _ {X : Type 0} (places : List ℕ) (items : List X) (p : ArePlaces (length items) places) where
  pub one_more_stands : (count : ℕ) (there : List X) (e : ℕ) (x : X) → StandAtPlaces places items count there →
      count < length items → x ≡ get_or items count x →
      StandAtPlaces places items (count + 1) (set there (get_or places count e) x)
  one_more_stands count there e x stand lt is = record {
    len = length-set there (get_or places count e) x ∙ stand.len;
    each = λ place within before d. elim (cases_eq place (get_or places count e)) [
      | inl same ↦
          let here : get_or (set there (get_or places count e) x) (get_or places count e) d ≡ x =
          get_or-set_same there (get_or places count e) x d
          (let low = place_below (length items) places p count e lt in omega (arith, low, stand.len)) in
          let found : index_of (get_or places count e) places ≡ count =
          index_of_place (length items) places p count e lt in
          rw (same, found, here) (is ∙ get_or_default items count x d lt)
      | inr differ ↦
          let found : place ≡ get_or places (index_of place places) e =
          sym (place_of_index (length items) places p place e within) in
          elim (cases_lt (index_of place places) count) [
            | inl earlier ↦
                get_or-set_other there (get_or places count e) place x d differ ∙ stand.each place within earlier d
            | inr later ↦
                let last : index_of place places ≡ count = omega (arith, before, later) in
                absurd (differ (found ∙ ap (λ i. get_or places i e) last))
          ]
    ];
  }

  pub all_stand : (none : X) (there : List X) → StandAtPlaces places items (length items) there →
      there ≡ placed none places items
  all_stand none there stand =
      fill_by_all (λ place. get_or items (index_of place places) none) there (length items) none stand.len
      (λ place within. stand.each place within (index_below (length items) places p place within) none)

  module _ (none : X) where
    abbrev item : ℕ → X
    item place = get_or items (index_of place places) none

    pub length-placed : length (placed none places items) ≡ length items
    length-placed = length-map-range_with_len item 0 (length items)

    pub get_or-placed : (place : ℕ) (d : X) → place < length items →
        get_or (placed none places items) place d ≡ get_or items (index_of place places) d
    get_or-placed place d lt =
        get_or-map-range_with_len item 0 (length items) place place d lt (omega arith)
        ∙ get_or_default items (index_of place places) none d (index_below (length items) places p place lt)

    -- what holds of each item holds of each at its place
    pub All-placed : (P : X → Type 0) → All P items → All P (placed none places items)
    All-placed P all = All-from_get_or P (placed none places items) none (λ place lt.
        let within : place < length items = let long = length-placed in omega (arith, lt, long) in
        subst P (sym (get_or-placed place none within))
        (All-get_or P items (index_of place places) none (index_below (length items) places p place within) all))

    pub placed_at : (k : ℕ) (d : X) → k < length items →
        get_or (placed none places items) (place_of places k) d ≡ get_or items k d
    placed_at k d lt =
        get_or-placed (place_of places k) d (place_below (length items) places p k k lt)
        ∙ ap (λ i. get_or items i d) (index_of_place (length items) places p k k lt)

    pub IsPermutation-placed : IsPermutation (placed none places items) items
    IsPermutation-placed =
        let long = as_many (length items) places p in
        let same : map item places ≡ items =
        same_lists (map item places) items (length-map places item ∙ long) (λ k d lt.
        let within : k < length places = let e = length-map places item in omega (arith, lt, e) in
        let inside : k < length items = omega (arith, within, long) in
        get_or-map item places k 0 d within
        ∙ ap (λ i. get_or items i none) (index_of_place (length items) places p k 0 inside)
        ∙ get_or_default items k none d inside) in
        subst (IsPermutation (placed none places items)) same
        (IsPermutation-sym (map item places) (placed none places items)
        (IsPermutation-map item places (range_with_len 0 (length items)) p))
