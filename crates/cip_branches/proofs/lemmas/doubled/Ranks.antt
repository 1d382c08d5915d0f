-- Branches that are doubled are ranked, as those that they are made of.
use Rattle.std.proofs.Common.{◌≡◌, ◌<◌, ◌≤◌, ◌+◌, ◌∷◌, ◌⊎◌, [], ℕ, suc, true, false, cond, List, length, map, slice_index, refl, sym, ap, ◌∙◌, subst, arith, inl, inr}
use Rattle.std.specs.List.{AllByRecursion}
use Rattle.std.specs.Ordering.{nat_cmp, is_lt}
use Rattle.std.proofs.lemmas.Simd.{map-map}
use Rattle.std.proofs.lemmas.Bool.{cases_lt, cases_order}
use Rattle.std.proofs.lemmas.List.FromFn.{length-range_with_len}
use Rattle.cip_rank.specs.Comparison.{insert_down, sorted_down}
use Rattle.std.proofs.lemmas.Cmp.{tied_itself, nat_cmp_total}
use Rattle.cip_rank.proofs.lemmas.Descending.{all_by}
use Rattle.cip_rank.proofs.lemmas.NumberedNodes.{less_is, greater_is}
use Rattle.cip_branches.specs.Deciding.{Branched, AreFollowed}
use Rattle.cip_branches.specs.Following.{AreRanked}
use Rattle.cip_partition.specs.Kids.{kid_set}
use Rattle.cip_partition.specs.Rows.{AreClassed}
use Rattle.cip_branches.specs.Turning.{in_sphere, AreSpheres}
use Rattle.cip_branches.specs.Twins.{MayDouble}
use Rattle.cip_partition.proofs.lemmas.TwinLists.{halves_length, pairs_length}
use Rattle.cip_branches.proofs.lemmas.doubled.Words.{doubled}
use Rattle.cip_branches.proofs.lemmas.doubled.Flags.{is_flagged, twins_tie}
use Rattle.cip_branches.proofs.lemmas.doubled.Starts.{IsTwinIn, kept_at_most, none_behind, start_at, start_past, starts_len, none_at, place_below, number_first, number_second, first_in, second_in, is_twin_in, kids_first, kids_second, up_first, up_second, no_kids, all_moved, classed}

-- doubled numbers compare and are sorted as they do themselves
pub double_order : (a b : ℕ) → nat_cmp (a + a) (b + b) ≡ nat_cmp a b
double_order a b = elim (cases_order a b) [
  | inl same ↦ ap (λ n. nat_cmp (a + a) (n + n)) (sym same) ∙ tied_itself nat_cmp_total (a + a)
      ∙ sym (ap (nat_cmp a) (sym same) ∙ tied_itself nat_cmp_total a)
  | inr (inl below) ↦ less_is (a + a) (b + b) (omega (arith, below)) ∙ sym (less_is a b below)
  | inr (inr above) ↦ greater_is (a + a) (b + b) (omega (arith, above)) ∙ sym (greater_is a b above)
]

insert_doubled : (n : ℕ) (ms : List ℕ)
    → insert_down nat_cmp (n + n) (map (λ k. k + k) ms) ≡ map (λ k. k + k) (insert_down nat_cmp n ms)
insert_doubled n [] = refl
insert_doubled n (m ∷ ms) =
    ap (λ r. cond (is_lt r) ((m + m) ∷ insert_down nat_cmp (n + n) (map (λ k. k + k) ms))
    ((n + n) ∷ (m + m) ∷ map (λ k. k + k) ms)) (double_order n m)
    ∙ ap (λ rest. cond (is_lt (nat_cmp n m)) ((m + m) ∷ rest) ((n + n) ∷ (m + m) ∷ map (λ k. k + k) ms))
    (insert_doubled n ms)
    ∙ elim (is_lt (nat_cmp n m)) as (λ b. cond b ((m + m) ∷ map (λ k. k + k) (insert_down nat_cmp n ms))
    ((n + n) ∷ (m + m) ∷ map (λ k. k + k) ms)
    ≡ map (λ k. k + k) (cond b (m ∷ insert_down nat_cmp n ms) (n ∷ m ∷ ms))) [ true ↦ refl | false ↦ refl ]

sorted_doubled : (ns : List ℕ) → sorted_down nat_cmp (map (λ k. k + k) ns) ≡ map (λ k. k + k) (sorted_down nat_cmp ns)
sorted_doubled [] = refl
sorted_doubled (n ∷ ns) = ap (insert_down nat_cmp (n + n)) (sorted_doubled ns) ∙ insert_doubled n (sorted_down nat_cmp
    ns)

map_doubled : (f g : ℕ → ℕ) (ks : List ℕ) → AllByRecursion (λ k. f k ≡ g k + g k) ks
    → map f ks ≡ map (λ k. k + k) (map g ks)
map_doubled f g [] all = refl
map_doubled f g (k ∷ ks) all =
    ap (λ n. n ∷ map f ks) all.0 ∙ ap (λ ns. (g k + g k) ∷ ns) (map_doubled f g ks all.1)

pub half_same : (a b : ℕ) → a + a ≡ b + b → a ≡ b
half_same a b e = omega (arith, e)

module _ (room : ℕ) (from : Branched) (followed : AreFollowed from) (may : MayDouble from) where
  open doubled room from use {count, rows, numbers, starts, At, kids, kept, twins, new_numbers, new_kids}

  abbrev In : ℕ → ℕ → Type 0
  In = in_sphere twins.layers.ranked.rows twins.layers.starts

  abbrev spheres : AreSpheres kids from.layers.place_tree.place_parents rows starts from.last numbers
  spheres = followed.ranked.spheres

  abbrev IsKidOf : ℕ → ℕ → ℕ → Type 0
  IsKidOf t x kid = In (suc t) kid × (slice_index twins.layers.place_tree.place_parents kid ≡ x)

  -- before the sphere after all places are those of before
  pub before_last : (t : ℕ) → t < kept → t ≤ from.last
  before_last t lt = let most = kept_at_most room from followed may in omega (arith, lt, most)

  told_first : (t p : ℕ) → t < kept → At t p → AllByRecursion (IsKidOf t p) (new_kids p)
  told_first t p inner at = elim (cases_lt t from.last) [
    | inl lt ↦ rw (kids_first room from followed may p (place_below room from followed may t p at))
        (all_by (λ kid h. (
          first_in room from followed may (suc t) kid h.0,
          up_first room from followed may t kid lt h.0 ∙ h.1,
        )) (kids p) (spheres.node_data t p lt at))
    | inr ge ↦
        let le = before_last t inner in
        let here : t ≡ from.last = omega (arith, le, ge) in
        let none = kids_first room from followed may p (place_below room from followed may t p at)
        ∙ no_kids room from followed may p (subst (λ u. At u p) here at) in
        subst (AllByRecursion (IsKidOf t p)) (sym none) tt
  ]

  told_second : (t p : ℕ) → t < kept → At t p → AllByRecursion (IsKidOf t (count + p)) (new_kids (count + p))
  told_second t p inner at = elim (cases_lt t from.last) [
    | inl lt ↦ rw (kids_second room from followed may p (place_below room from followed may t p at))
        (all_moved room from followed may (λ kid. At (suc t) kid × (slice_index from.layers.place_tree.place_parents kid ≡ p))
        (IsKidOf t (count + p)) (λ kid h. (
          second_in room from followed may (suc t) kid h.0,
          up_second room from followed may t kid lt h.0 ∙ ap (λ k. count + k) h.1,
        )) (kids p) (spheres.node_data t p lt at))
    | inr ge ↦
        let le = before_last t inner in
        let here : t ≡ from.last = omega (arith, le, ge) in
        let none = kids_second room from followed may p (place_below room from followed may t p at)
        ∙ ap (map (λ k. count + k)) (no_kids room from followed may p (subst (λ u. At u p) here at)) in
        subst (AllByRecursion (IsKidOf t (count + p))) (sym none) tt
  ]

  node_data : (t x : ℕ) → t < kept → In t x → AllByRecursion (IsKidOf t x) (new_kids x)
  node_data t x inner at =
      let twin = is_twin_in room from followed may t x at in
      elim twin.which [
        | inl e ↦ rw e (told_first t twin.place inner twin.at)
        | inr e ↦ rw e (told_second t twin.place inner twin.at)
      ]

  parent_place : (t x : ℕ) → t < kept → In (suc t) x → In t (slice_index twins.layers.place_tree.place_parents x)
  parent_place t x inner at =
      let twin = is_twin_in room from followed may (suc t) x at in
      let le = before_last (suc t) twin.inner in
      let above = spheres.parent_place t twin.place (omega (arith, le)) twin.at in
      elim twin.which [
        | inl e ↦ subst (In t) (sym (ap (slice_index twins.layers.place_tree.place_parents) e
            ∙ up_first room from followed may t twin.place (omega (arith, le)) twin.at))
            (first_in room from followed may t (slice_index from.layers.place_tree.place_parents twin.place) above)
        | inr e ↦ subst (In t) (sym (ap (slice_index twins.layers.place_tree.place_parents) e
            ∙ up_second room from followed may t twin.place (omega (arith, le)) twin.at))
            (second_in room from followed may t (slice_index from.layers.place_tree.place_parents twin.place) above)
      ]

  -- the same place has the same copy
  same_place : (p q x : ℕ) → p < count → q < count → (x ≡ p) ⊎ (x ≡ count + p) → (x ≡ q) ⊎ (x ≡ count + q) → p ≡ q
  same_place p q x lp lq (inl e) (inl f) = omega (arith, e, f)
  same_place p q x lp lq (inl e) (inr f) = absurd (omega (arith, e, f, lp))
  same_place p q x lp lq (inr e) (inl f) = absurd (omega (arith, e, f, lq))
  same_place p q x lp lq (inr e) (inr f) = omega (arith, e, f)

  once : (t u x : ℕ) → In t x → In u x → t ≡ u
  once t u x one other =
      let a = is_twin_in room from followed may t x one in
      let b = is_twin_in room from followed may u x other in
      spheres.once t u a.place a.at (subst (At u) (sym (same_place a.place b.place x a.low b.low a.which b.which)) b.at)

  all_rows : length twins.layers.ranked.rows ≡ length rows + length rows
  all_rows = pairs_length count rows

  start_end : (t : ℕ) → t ≤ kept → slice_index twins.layers.starts (suc t) ≤ length twins.layers.ranked.rows
  start_end t le = elim (cases_lt t kept) [
    | inl lt ↦
        let here = start_at room from followed may (suc t) (omega (arith, lt)) in
        let within = spheres.within t (before_last t lt) in
        let all = all_rows in
        omega (arith, here, within, all)
    | inr ge ↦
        let here : t ≡ kept = omega (arith, le, ge) in
        let past = ap (λ u. slice_index twins.layers.starts (suc u)) here ∙ start_past room from followed may in
        let all = all_rows in
        omega (arith, past, all)
  ]

  rise : (t : ℕ) → t ≤ kept → slice_index twins.layers.starts t ≤ slice_index twins.layers.starts (suc t)
  rise t le = elim (cases_lt t kept) [
    | inl lt ↦
        let here = start_at room from followed may t (omega (arith, lt)) in
        let past = start_at room from followed may (suc t) (omega (arith, lt)) in
        let rises = spheres.rise t (before_last t lt) in
        omega (arith, here, past, rises)
    | inr ge ↦
        let same : t ≡ kept = omega (arith, le, ge) in
        let here = ap (slice_index twins.layers.starts) same ∙ start_at room from followed may kept (omega arith) in
        let past = ap (λ u. slice_index twins.layers.starts (suc u)) same ∙ start_past room from followed may in
        let all = none_behind room from followed may in
        omega (arith, here, past, all)
  ]

  ends : (t row : ℕ) → slice_index twins.layers.starts t ≤ row → row < slice_index twins.layers.starts (suc t) → t ≤
      kept
  ends t row low high = elim (cases_lt t kept) [
    | inl lt ↦ omega (arith, lt)
    | inr ge ↦ absurd (none_at room from followed may t row ge low high)
  ]

  all_classed : (t : ℕ) → t ≤ kept → AreClassed twins.layers.ranked.rows new_numbers
      (slice_index twins.layers.starts t) (slice_index twins.layers.starts (suc t))
  all_classed t le = elim (cases_lt t kept) [
    | inl lt ↦ classed room from followed may t lt
    | inr ge ↦ record {
      head = λ some. absurd (none_at room from followed may t (slice_index twins.layers.starts t) ge (omega arith)
          some);
      next = λ row low high. absurd (none_at room from followed may t row ge low (omega (arith, high)));
    }
  ]

  pub twin_spheres : AreSpheres new_kids twins.layers.place_tree.place_parents twins.layers.ranked.rows twins.layers.starts kept
      new_numbers
  twin_spheres = record {
    rise = rise;
    ends = ends;
    within = start_end;
    classed = all_classed;
    once = once;
    node_data = node_data;
    parent_place = parent_place;
  }

  -- sets of the copies are those of the place, doubled
  set_first : (t p : ℕ) → t < from.last → At t p
      → kid_set new_kids new_numbers p ≡ map (λ k. k + k) (kid_set kids numbers p)
  set_first t p lt at =
      let low = place_below room from followed may t p at in
      ap (λ ks. sorted_down nat_cmp (map (slice_index new_numbers) ks)) (kids_first room from followed may p low)
      ∙ ap (sorted_down nat_cmp) (map_doubled (slice_index new_numbers) (slice_index numbers) (kids p)
      (all_by (λ kid h. number_first room from followed may (suc t) kid h.0) (kids p) (spheres.node_data t p lt at)))
      ∙ sorted_doubled (map (slice_index numbers) (kids p))

  set_second : (t p : ℕ) → t < from.last → At t p
      → kid_set new_kids new_numbers (count + p) ≡ map (λ k. k + k) (kid_set kids numbers p)
  set_second t p lt at =
      let low = place_below room from followed may t p at in
      ap (λ ks. sorted_down nat_cmp (map (slice_index new_numbers) ks)) (kids_second room from followed may p low)
      ∙ ap (sorted_down nat_cmp) (map-map (slice_index new_numbers) (λ k. count + k) (kids p)
      ∙ map_doubled (λ k. slice_index new_numbers (count + k)) (slice_index numbers) (kids p)
      (all_by (λ kid h. number_second room from followed may (suc t) kid h.0) (kids p) (spheres.node_data t p lt at)))
      ∙ sorted_doubled (map (slice_index numbers) (kids p))

  set_twin : (t x : ℕ) (twin : IsTwinIn from t x) → t < from.last
      → kid_set new_kids new_numbers x ≡ map (λ k. k + k) (kid_set kids numbers twin.place)
  set_twin t x twin lt = elim twin.which [
    | inl e ↦ ap (kid_set new_kids new_numbers) e ∙ set_first t twin.place lt twin.at
    | inr e ↦ ap (kid_set new_kids new_numbers) e ∙ set_second t twin.place lt twin.at
  ]

  set_none : (x : ℕ) (twin : IsTwinIn from from.last x) → kid_set new_kids new_numbers x ≡ []
  set_none x twin =
      let none = no_kids room from followed may twin.place twin.at in
      elim twin.which [
        | inl e ↦ ap (λ y. kid_set new_kids new_numbers y) e
            ∙ ap (λ ks. sorted_down nat_cmp (map (slice_index new_numbers) ks))
            (kids_first room from followed may twin.place twin.low ∙ none)
        | inr e ↦ ap (λ y. kid_set new_kids new_numbers y) e
            ∙ ap (λ ks. sorted_down nat_cmp (map (slice_index new_numbers) ks))
            (kids_second room from followed may twin.place twin.low ∙ ap (map (λ k. count + k)) none)
      ]

  pub number_twin : (t x : ℕ) (twin : IsTwinIn from t x)
      → slice_index new_numbers x ≡ slice_index numbers twin.place + slice_index numbers twin.place
  number_twin t x twin = elim twin.which [
    | inl e ↦ ap (slice_index new_numbers) e ∙ number_first room from followed may t twin.place twin.at
    | inr e ↦ ap (slice_index new_numbers) e ∙ number_second room from followed may t twin.place twin.at
  ]

  steady : (t x y : ℕ) → t < kept → In t x → In t y → slice_index new_numbers x ≡ slice_index new_numbers y
      → kid_set new_kids new_numbers x ≡ kid_set new_kids new_numbers y
  steady t x y inner p q tie =
      let a = is_twin_in room from followed may t x p in
      let b = is_twin_in room from followed may t y q in
      elim (cases_lt t from.last) [
        | inl lt ↦
            let same = half_same (slice_index numbers a.place) (slice_index numbers b.place)
            (sym (number_twin t x a) ∙ tie ∙ number_twin t y b) in
            set_twin t x a lt ∙ ap (map (λ k. k + k)) (followed.ranked.steady t a.place b.place lt a.at b.at same)
            ∙ sym (set_twin t y b lt)
        | inr ge ↦
            let le = before_last t inner in
            let here : t ≡ from.last = omega (arith, le, ge) in
            set_none x (subst (λ u. IsTwinIn from u x) here a) ∙ sym (set_none y (subst (λ u. IsTwinIn from u y) here
            b))
      ]

  pub twin_ranks : AreRanked twins.layers twins.last
  twin_ranks = record {
    spheres = twin_spheres;
    count = starts_len room from followed may;
    ends = start_past room from followed may ∙ sym all_rows;
    before = refl;
    steady = steady;
  }

  ups_len : length twins.layers.place_tree.place_parents ≡ count + count
  ups_len = halves_length count from.layers.place_tree.place_parents

  pub in_none : (x : ℕ) → In kept x → ⊥
  in_none x p = none_at room from followed may kept p.row (omega arith) p.low p.high

  below_all : (t x : ℕ) → In t x → x < count + count
  below_all t x p =
      let twin = is_twin_in room from followed may t x p in
      let low = twin.low in
      elim twin.which [ inl e ↦ omega (arith, e, low) | inr e ↦ omega (arith, e, low) ]

  pub twins_followed : AreFollowed twins
  twins_followed = record {
    ranked = twin_ranks;
    places = λ flags. record {
      low = λ x p. absurd (in_none x p);
      high = λ x p. absurd (in_none x p);
      back = λ x low high flag. let len = ups_len in absurd (omega (arith, low, high, len));
      inner = λ t x lt p. below_all t x p;
      bare = λ x low high. let len = ups_len in absurd (omega (arith, low, high, len));
    };
    within = let len = ups_len in omega (arith, len);
    nodes_len = length-range_with_len 0 (count + count) ∙ sym ups_len;
    chosen = record {
      tie = twins_tie count from.unresolved may.tops new_numbers (λ branch has.
          let at = followed.chosen.top branch has in
          number_first room from followed may 0 branch at ∙ sym (number_second room from followed may 0 branch at));
      top = λ x has.
          let one = is_flagged count from.unresolved may.tops x has in
          let at = followed.chosen.top one.branch one.chosen in
          elim one.which [
            | inl e ↦ subst (In 0) (sym e) (first_in room from followed may 0 one.branch at)
            | inr e ↦ subst (In 0) (sym e) (second_in room from followed may 0 one.branch at)
          ];
    };
  }
