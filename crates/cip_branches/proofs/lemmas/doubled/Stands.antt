-- Branches that are doubled follow the order of those that they are made of, each node read in two ways.
use Rattle.std.proofs.Common.{◌≡◌, ◌≢◌, ◌<◌, ◌≤◌, ◌+◌, ◌-◌, ◌⊎◌, [], ℕ, suc, true, if◌then◌else◌, List, length, map, nat_lt, slice_index, sym, ap, ◌∙◌, subst, arith, inl, inr}
use Rattle.std.specs.declared.cmp.Ordering.{Ordering}
use Rattle.std.specs.List.{AllByRecursion}
use Rattle.std.specs.List.Sorted.{IsPermutation}
use Rattle.std.specs.Ordering.{nat_cmp}
use Rattle.std.proofs.lemmas.Bool.{cases_lt}
use Rattle.std.proofs.lemmas.Bool.Decides.{nat_tests}
use Rattle.std.proofs.lemmas.List.FromFn.{get_or-range_with_len}
use Rattle.std.proofs.lemmas.List.Sorted.{IsPermutation-map, IsPermutation-refl}
use Rattle.cip_rank.specs.Ranking.{by_number}
use Rattle.cip_rank.proofs.lemmas.Descending.{all_by}
use Rattle.cip_branches.specs.Among.{AreShownAmong, StandsAmong}
use Rattle.cip_branches.specs.Deciding.{Branched, AreFollowed}
use Rattle.cip_partition.specs.Kids.{kids_of}
use Rattle.cip_partition.specs.Parting.{has_flag}
use Rattle.cip_branches.specs.Standing.{node_in, WantedIn, StandsBy}
use Rattle.cip_branches.specs.Turning.{in_sphere}
use Rattle.cip_branches.specs.Twins.{MayDouble}
use Rattle.cip_partition.specs.Twins.{moved_on}
use Rattle.cip_branches.specs.Views.{IsView, IsEnded}
use Rattle.cip_partition.proofs.lemmas.Cases.{both, cases_same}
use Rattle.cip_branches.proofs.lemmas.doubled.Words.{doubled}
use Rattle.std.proofs.lemmas.Simd.{map-map}
use Rattle.cip_branches.proofs.lemmas.ruled.Ruled.{map_same}
use Rattle.cip_partition.proofs.lemmas.TwinLists.{moved_low, moved_high}
use Rattle.cip_partition.proofs.lemmas.TwinPlaces.{half_low, half_high}
use Rattle.cip_branches.proofs.lemmas.doubled.Flags.{flag_first, flag_second, no_flag, twin_wanted_len}
use Rattle.cip_branches.proofs.lemmas.doubled.Ranks.{double_order, half_same, number_twin, before_last, in_none}
use Rattle.cip_branches.proofs.lemmas.doubled.Starts.{place_below, number_first, number_second, first_in, second_in, is_twin_in, kids_first, kids_second, no_kids, all_moved}

-- what stands for a copy of n places: a node as it is read first, or then
abbrev pub twin_named : {N K : Type 0} → (ℕ → N) → List ℕ → ℕ → K → K → ℕ → N × K
twin_named named nodes count one other x =
    if nat_lt x count then (named (slice_index nodes x), one) else (named (slice_index nodes (x - count)), other)

-- the children of a node are read as it is
abbrev pub read_each : {N K : Type 0} → (N → List N) → N × K → List (N × K)
read_each children reading = map (λ child. (child, reading.1)) (children reading.0)

-- a branch, or the copy of one that is unresolved
pub record IsReading (from : Branched) (a : ℕ) : Type 0 where
  pub branch : ℕ
  pub low : branch < length from.unresolved
  pub which : (a ≡ branch) ⊎ ((a ≡ length from.layers.place_tree.place_parents + branch) × (has_flag from.unresolved branch ≡ true))

named_low : {N K : Type 0} (named : ℕ → N) (nodes : List ℕ) (count : ℕ) (one other : K) (x : ℕ) → x < count
    → twin_named named nodes count one other x ≡ (named (slice_index nodes x), one)
named_low named nodes count one other x lt = grind (arith, nat_tests)

named_high : {N K : Type 0} (named : ℕ → N) (nodes : List ℕ) (count : ℕ) (one other : K) (x : ℕ)
    → twin_named named nodes count one other (count + x) ≡ (named (slice_index nodes x), other)
named_high named nodes count one other x =
    let back : count + x - count ≡ x = omega arith in
    high (count + x) (omega arith) ∙ ap (λ k. (named (slice_index nodes k), other)) back
  where
    high : (k : ℕ) → count ≤ k
        → twin_named named nodes count one other k ≡ (named (slice_index nodes (k - count)), other)
    high k le = grind (arith, nat_tests)

module _ (room : ℕ) (from : Branched) (followed : AreFollowed from) (may : MayDouble from) where
  open doubled room from use {count, kids, kept, twins, new_kids}

  chosen_first : (p : ℕ) → p < count
      → has_flag twins.unresolved (slice_index twins.layers.place_tree.branches p)
      ≡ has_flag from.unresolved (slice_index from.layers.place_tree.branches p)
  chosen_first p lt =
      let b = slice_index from.layers.place_tree.branches p in
      let here = half_low from.layers.place_tree may.family from.layers.place_tree.branches may.family.branches_len p lt in
      elim (cases_lt b count) [
        | inl low ↦
            let same : moved_on 0 count b ≡ b = moved_low 0 count b low ∙ omega arith in
            ap (has_flag twins.unresolved) (here ∙ same) ∙ flag_first count from.unresolved may.tops b low
        | inr high ↦ ap (has_flag twins.unresolved) (here ∙ moved_high 0 count b high)
            ∙ flag_second count from.unresolved may.tops count
            ∙ no_flag count from.unresolved may.tops count (omega arith) ∙ sym (no_flag count from.unresolved may.tops b high)
      ]

  chosen_second : (p : ℕ) → p < count
      → has_flag twins.unresolved (slice_index twins.layers.place_tree.branches (count + p))
      ≡ has_flag from.unresolved (slice_index from.layers.place_tree.branches p)
  chosen_second p lt =
      let b = slice_index from.layers.place_tree.branches p in
      let here = half_high from.layers.place_tree may.family from.layers.place_tree.branches may.family.branches_len p lt in
      elim (cases_lt b count) [
        | inl low ↦ ap (has_flag twins.unresolved) (here ∙ moved_low count count b low)
            ∙ flag_second count from.unresolved may.tops b
        | inr high ↦ ap (has_flag twins.unresolved) (here ∙ moved_high count count b high)
            ∙ flag_second count from.unresolved may.tops count
            ∙ no_flag count from.unresolved may.tops count (omega arith) ∙ sym (no_flag count from.unresolved may.tops b high)
      ]

  want_first : (t p : ℕ) → WantedIn from t p → WantedIn twins t p
  want_first t p w = record {
    at = first_in room from followed may t p w.at;
    chosen = chosen_first p (place_below room from followed may t p w.at) ∙ w.chosen;
  }

  want_second : (t p : ℕ) → WantedIn from t p → WantedIn twins t (count + p)
  want_second t p w = record {
    at = second_in room from followed may t p w.at;
    chosen = chosen_second p (place_below room from followed may t p w.at) ∙ w.chosen;
  }

  pub record WantsTwin (t x : ℕ) : Type 0 where
    pub place : ℕ
    pub unresolved : WantedIn from t place
    pub inner : t < kept
    pub low : place < count
    pub which : (x ≡ place) ⊎ (x ≡ count + place)

  pub wants_twin : (t x : ℕ) → WantedIn twins t x → WantsTwin t x
  wants_twin t x w =
      let twin = is_twin_in room from followed may t x w.at in
      record {
        place = twin.place;
        unresolved = record {
          at = twin.at;
          chosen = elim twin.which [
            | inl e ↦ sym (chosen_first twin.place twin.low)
                ∙ ap (λ y. has_flag twins.unresolved (slice_index twins.layers.place_tree.branches y)) (sym e) ∙ w.chosen
            | inr e ↦ sym (chosen_second twin.place twin.low)
                ∙ ap (λ y. has_flag twins.unresolved (slice_index twins.layers.place_tree.branches y)) (sym e) ∙ w.chosen
          ];
        };
        inner = twin.inner;
        low = twin.low;
        which = twin.which;
      }

  module _ {N K : Type 0} (children : N → List N) (named : ℕ → N) (one other : K) where
    abbrev reads : ℕ → N × K
    reads = twin_named named from.layers.place_tree.nodes count one other

    abbrev node : ℕ → N
    node = node_in named from

    abbrev node_now : ℕ → N × K
    node_now = node_in reads twins

    pub itself : (x : ℕ) → x < count + count → slice_index twins.layers.place_tree.nodes x ≡ x
    itself x lt = get_or-range_with_len 0 (count + count) x 0 lt ∙ omega arith

    pub node_first : (p : ℕ) → p < count → node_now p ≡ (node p, one)
    node_first p lt = ap reads (itself p (omega (arith, lt)))
        ∙ named_low named from.layers.place_tree.nodes count one other p lt

    pub node_second : (p : ℕ) → p < count → node_now (count + p) ≡ (node p, other)
    node_second p lt = ap reads (itself (count + p) (omega (arith, lt)))
        ∙ named_high named from.layers.place_tree.nodes count one other p

    -- the node of a place, whether it or its copy is meant
    first_part : (t x : ℕ) (twin : WantsTwin t x) → (node_now x).0 ≡ node twin.place
    first_part t x twin = elim twin.which [
      | inl e ↦ ap (λ y. (node_now y).0) e ∙ ap (λ (r : N × K). r.0) (node_first twin.place twin.low)
      | inr e ↦ ap (λ y. (node_now y).0) e ∙ ap (λ (r : N × K). r.0) (node_second twin.place twin.low)
    ]

    module _ (view : IsView children node (kids_of from.layers.place_tree) (WantedIn from) from.last)
        (ends : IsEnded children node (WantedIn from) from.last) where
      next_first : (t p : ℕ) → t < from.last → WantedIn from t p → AllByRecursion (WantedIn twins (suc t)) (new_kids p)
      next_first t p lt w = subst (AllByRecursion (WantedIn twins (suc t)))
          (sym (kids_first room from followed may p (place_below room from followed may t p w.at)))
          (all_by (λ kid h. want_first (suc t) kid h) (kids p) (view.next t p lt w))

      next_second : (t p : ℕ) → t < from.last → WantedIn from t p
          → AllByRecursion (WantedIn twins (suc t)) (new_kids (count + p))
      next_second t p lt w = subst (AllByRecursion (WantedIn twins (suc t)))
          (sym (kids_second room from followed may p (place_below room from followed may t p w.at)))
          (all_moved room from followed may (WantedIn from (suc t)) (WantedIn twins (suc t))
          (λ kid h. want_second (suc t) kid h) (kids p) (view.next t p lt w))

      read_kids : (k : K) (ns : List ℕ) → map {B = N × K} (λ n. (node n, k)) ns ≡ map {B = N × K} (λ child. (
        child,
        k,
      )) (map node ns)
      read_kids k ns = sym (map-map (λ child. (child, k)) node ns)

      low_kids : (t p : ℕ) → t < from.last → WantedIn from t p → AllByRecursion (λ kid. kid < count) (kids p)
      low_kids t p lt w = all_by (λ kid h. place_below room from followed may (suc t) kid h.at) (kids p)
          (view.next t p lt w)

      told_first : (t p : ℕ) → t < from.last → WantedIn from t p
          → IsPermutation (map node_now (new_kids p)) (read_each children (node_now p))
      told_first t p lt w =
          let low = place_below room from followed may t p w.at in
          let kids_are : map node_now (new_kids p) ≡ map {B = N × K} (λ child. (child, one)) (map node (kids p)) =
          ap (map node_now) (kids_first room from followed may p low)
          ∙ map_same node_now (λ n. (node n, one)) (kids p) (all_by (λ kid h. node_first kid h) (kids p)
          (low_kids t p lt w))
          ∙ read_kids one (kids p) in
          rw (kids_are, node_first p low)
          (IsPermutation-map (λ child. (child, one)) (map node (kids p)) (children (node p)) (view.node_data t p lt w))

      told_second : (t p : ℕ) → t < from.last → WantedIn from t p
          → IsPermutation (map node_now (new_kids (count + p))) (read_each children (node_now (count + p)))
      told_second t p lt w =
          let low = place_below room from followed may t p w.at in
          let kids_are : map node_now (new_kids (count + p)) ≡ map {B = N × K} (λ child. (child, other)) (map node
          (kids p)) =
          ap (map node_now) (kids_second room from followed may p low)
          ∙ map-map node_now (λ n. count + n) (kids p)
          ∙ map_same (λ n. node_now (count + n)) (λ n. (node n, other)) (kids p) (all_by (λ kid h. node_second kid h)
          (kids p) (low_kids t p lt w))
          ∙ read_kids other (kids p) in
          rw (kids_are, node_second p low)
          (IsPermutation-map (λ child. (child, other)) (map node (kids p)) (children (node p)) (view.node_data t p lt w))

      -- in the last sphere neither nodes nor places have any
      none_read : (x : ℕ) (twin : WantsTwin from.last x) → read_each children (node_now x) ≡ []
      none_read x twin = ap (λ n. map {B = N × K} (λ child. (child, (node_now x).1)) (children n)) (first_part
          from.last x twin)
          ∙ ap (map {B = N × K} (λ child. (child, (node_now x).1))) (ends.none twin.place twin.unresolved)

      no_new_kids : (x : ℕ) (twin : WantsTwin from.last x) → new_kids x ≡ []
      no_new_kids x twin =
          let none = no_kids room from followed may twin.place twin.unresolved.at in
          elim twin.which [
            | inl e ↦ ap (λ y. new_kids y) e ∙ kids_first room from followed may twin.place twin.low ∙ none
            | inr e ↦ ap (λ y. new_kids y) e ∙ kids_second room from followed may twin.place twin.low
                ∙ ap (map (λ k. count + k)) none
          ]

      -- as far as the last sphere of before
      pub view_before : IsView (read_each children) node_now new_kids (WantedIn twins) from.last
      view_before = record {
        within = λ t x w. let twin = wants_twin t x w in view.within t twin.place twin.unresolved;
        next = λ t x lt w.
            let twin = wants_twin t x w in
            elim twin.which [
              | inl e ↦ rw e (next_first t twin.place lt twin.unresolved)
              | inr e ↦ rw e (next_second t twin.place lt twin.unresolved)
            ];
        node_data = λ t x lt w.
            let twin = wants_twin t x w in
            elim twin.which [
              | inl e ↦ rw e (told_first t twin.place lt twin.unresolved)
              | inr e ↦ rw e (told_second t twin.place lt twin.unresolved)
            ];
      }

      pub ended_before : IsEnded (read_each children) node_now (WantedIn twins) from.last
      ended_before = record { none = λ x w. none_read x (wants_twin from.last x w) }

      -- and as far as the sphere without places
      pub view_twins : IsView (read_each children) node_now new_kids (WantedIn twins) kept
      view_twins = record {
        within = λ t x w. let twin = wants_twin t x w in let inner = twin.inner in omega (arith, inner);
        next = λ t x inner w. elim (cases_lt t from.last) [
          | inl lt ↦ view_before.next t x lt w
          | inr ge ↦
              let le = before_last room from followed may t inner in
              let here : t ≡ from.last = omega (arith, le, ge) in
              let none = no_new_kids x (wants_twin from.last x (subst (λ u. WantedIn twins u x) here w)) in
              subst (AllByRecursion (WantedIn twins (suc t))) (sym none) tt
        ];
        node_data = λ t x inner w. elim (cases_lt t from.last) [
          | inl lt ↦ view_before.node_data t x lt w
          | inr ge ↦
              let le = before_last room from followed may t inner in
              let here : t ≡ from.last = omega (arith, le, ge) in
              let twin = wants_twin from.last x (subst (λ u. WantedIn twins u x) here w) in
              subst (λ rs. IsPermutation (map node_now (new_kids x)) rs) (sym (none_read x twin))
              (subst (λ ks. IsPermutation (map node_now ks) []) (sym (no_new_kids x twin)) (IsPermutation-refl []))
        ];
      }

      pub ended_twins : IsEnded (read_each children) node_now (WantedIn twins) kept
      ended_twins = record { none = λ x w. absurd (in_none room from followed may x w.at) }

    module _ (compare : N → N → Ordering) (stands : StandsBy children named compare from)
        (ends : IsEnded children node (WantedIn from) from.last) where
      abbrev by_node : N × K → N × K → Ordering
      by_node a b = compare a.0 b.0

      top_in : (a : ℕ) → IsReading from a → in_sphere twins.layers.ranked.rows twins.layers.starts 0 a
      top_in a reading = elim reading.which [
        | inl e ↦ subst (in_sphere twins.layers.ranked.rows twins.layers.starts 0) (sym e)
            (first_in room from followed may 0 reading.branch (stands.shown.top reading.branch reading.low))
        | inr e ↦ subst (in_sphere twins.layers.ranked.rows twins.layers.starts 0) (sym e.0)
            (second_in room from followed may 0 reading.branch (stands.shown.top reading.branch reading.low))
      ]

      branch_twin : (a : ℕ) → IsReading from a → slice_index twins.layers.place_tree.branches a ≡ a
      branch_twin a reading =
          let k = reading.branch in
          let lt = reading.low in
          let is = stands.shown.branch k lt in
          let low : k < count = omega (arith, lt, may.tops) in
          elim reading.which [
            | inl e ↦
                let here = half_low from.layers.place_tree may.family from.layers.place_tree.branches may.family.branches_len k low in
                let same = moved_low 0 count k low in
                ap (slice_index twins.layers.place_tree.branches) e ∙ here ∙ ap (moved_on 0 count) is ∙ same ∙ omega (arith, e)
            | inr e ↦
                let here = half_high from.layers.place_tree may.family from.layers.place_tree.branches may.family.branches_len k low
                in
                let same = moved_low count count k low in
                ap (slice_index twins.layers.place_tree.branches) e.0 ∙ here ∙ ap (moved_on count count) is ∙ same ∙ sym e.0
          ]

      wanted_len : length twins.unresolved ≡ count + length from.unresolved
      wanted_len = twin_wanted_len count from.unresolved may.tops

      inherit_first : (p : ℕ) → p < count → slice_index twins.layers.place_tree.branches p
          ≡ moved_on 0 count (slice_index from.layers.place_tree.branches p)
      inherit_first p lt = half_low from.layers.place_tree may.family from.layers.place_tree.branches may.family.branches_len p lt

      inherit_second : (p : ℕ) → p < count → slice_index twins.layers.place_tree.branches (count + p)
          ≡ moved_on count count (slice_index from.layers.place_tree.branches p)
      inherit_second p lt = half_high from.layers.place_tree may.family from.layers.place_tree.branches may.family.branches_len p lt

      abbrev Inherits : ℕ → ℕ → Type 0
      Inherits x kid = slice_index twins.layers.place_tree.branches kid ≡ slice_index twins.layers.place_tree.branches x

      kids_inherit : (t p : ℕ) → t < from.last → WantedIn from t p
          → AllByRecursion (λ kid. (kid < count)
          × (slice_index from.layers.place_tree.branches kid ≡ slice_index from.layers.place_tree.branches p))
          (kids_of from.layers.place_tree p)
      kids_inherit t p lt w = both (λ kid. kid < count)
          (λ kid. slice_index from.layers.place_tree.branches kid ≡ slice_index from.layers.place_tree.branches p)
          (kids_of from.layers.place_tree p) (low_kids stands.shown.view ends t p lt w) (stands.shown.inherits t p lt w)

      inherits : (t x : ℕ) → t < from.last → (twin : WantsTwin t x)
          → AllByRecursion (Inherits x) (kids_of twins.layers.place_tree x)
      inherits t x lt twin = elim twin.which [
        | inl e ↦ rw e (subst (AllByRecursion (Inherits twin.place)) (sym (kids_first room from followed may twin.place twin.low))
            (all_by (λ kid h. inherit_first kid h.0 ∙ ap (moved_on 0 count) h.1 ∙ sym (inherit_first twin.place
            twin.low))
            (kids_of from.layers.place_tree twin.place) (kids_inherit t twin.place lt twin.unresolved)))
        | inr e ↦ rw e (subst (AllByRecursion (Inherits (count + twin.place)))
            (sym (kids_second room from followed may twin.place twin.low))
            (all_moved room from followed may (λ kid. (kid < count)
            × (slice_index from.layers.place_tree.branches kid ≡ slice_index from.layers.place_tree.branches twin.place))
            (Inherits (count + twin.place)) (λ kid h. inherit_second kid h.0 ∙ ap (moved_on count count) h.1
            ∙ sym (inherit_second twin.place twin.low)) (kids_of from.layers.place_tree twin.place)
            (kids_inherit t twin.place lt twin.unresolved)))
      ]

      shown : AreShownAmong (IsReading from) (read_each children) reads twins
      shown = record {
        view = view_twins stands.shown.view ends;
        inherits = λ t x inner w. elim (cases_lt t from.last) [
          | inl lt ↦ inherits t x lt (wants_twin t x w)
          | inr ge ↦
              let le = before_last room from followed may t inner in
              let here : t ≡ from.last = omega (arith, le, ge) in
              subst (AllByRecursion (Inherits x)) (sym (no_new_kids stands.shown.view ends x
              (wants_twin from.last x (subst (λ u. WantedIn twins u x) here w)))) tt
        ];
        top = top_in;
        branch = branch_twin;
        inside = λ a reading.
            let lt = reading.low in
            let len = wanted_len in
            elim reading.which [
              | inl e ↦ omega (arith, e, lt, may.tops, len)
              | inr e ↦ let here = e.0 in omega (arith, here, lt, len)
            ];
      }

      number_of : (t x : ℕ) (twin : WantsTwin t x) → slice_index twins.layers.ranked.numbers x
          ≡ slice_index from.layers.ranked.numbers twin.place + slice_index from.layers.ranked.numbers twin.place
      number_of t x twin = number_twin room from followed may t x (record {
        place = twin.place;
        at = twin.unresolved.at;
        inner = twin.inner;
        low = twin.low;
        which = twin.which;
      })

      -- numbers compare as those of the places that are meant
      as_before : (t x y : ℕ) (a : WantsTwin t x) (b : WantsTwin t y)
          → by_number twins.layers.ranked.numbers x y ≡ by_number from.layers.ranked.numbers a.place b.place
      as_before t x y a b =
          ap (λ n. nat_cmp n (slice_index twins.layers.ranked.numbers y)) (number_of t x a)
          ∙ ap (nat_cmp (slice_index from.layers.ranked.numbers a.place
          + slice_index from.layers.ranked.numbers a.place)) (number_of t y b)
          ∙ double_order (slice_index from.layers.ranked.numbers a.place) (slice_index from.layers.ranked.numbers
          b.place)

      orders : (t x y : ℕ) → WantedIn twins t x → WantedIn twins t y
          → by_number twins.layers.ranked.numbers x y ≡ by_node (node_now x) (node_now y)
      orders t x y p q =
          let a = wants_twin t x p in
          let b = wants_twin t y q in
          as_before t x y a b ∙ (stands.ordered t).each a.place b.place a.unresolved b.unresolved
          ∙ ap (λ n. compare n (node b.place)) (sym (first_part t x a))
          ∙ ap (compare (node_now x).0) (sym (first_part t y b))

      flag_of : (a : ℕ) (reading : IsReading from a) → has_flag from.unresolved reading.branch ≡ true
          → has_flag twins.unresolved a ≡ true
      flag_of a reading flag =
          elim reading.which [
            | inl e ↦ ap (has_flag twins.unresolved) e
                ∙ flag_first count from.unresolved may.tops reading.branch (omega (arith, reading.low, may.tops)) ∙ flag
            | inr e ↦ ap (has_flag twins.unresolved) e.0 ∙ flag_second count from.unresolved may.tops reading.branch ∙ flag
          ]

      -- where a branch is unresolved, both of its readings are
      pub reading_in : (a : ℕ) (reading : IsReading from a) → has_flag from.unresolved reading.branch ≡ true
          → WantedIn twins 0 a
      reading_in a reading flag = record {
        at = top_in a reading;
        chosen = ap (has_flag twins.unresolved) (branch_twin a reading) ∙ flag_of a reading flag;
      }

      top_number : (a : ℕ) (reading : IsReading from a) → slice_index twins.layers.ranked.numbers a
          ≡ slice_index from.layers.ranked.numbers reading.branch + slice_index from.layers.ranked.numbers
          reading.branch
      top_number a reading = elim reading.which [
        | inl e ↦ ap (slice_index twins.layers.ranked.numbers) e
            ∙ number_first room from followed may 0 reading.branch (stands.shown.top reading.branch reading.low)
        | inr e ↦ ap (slice_index twins.layers.ranked.numbers) e.0
            ∙ number_second room from followed may 0 reading.branch (stands.shown.top reading.branch reading.low)
      ]

      pub top_node : (a : ℕ) (reading : IsReading from a) → (node_now a).0 ≡ node reading.branch
      top_node a reading =
          let lt = reading.low in
          let tops = may.tops in
          elim reading.which [
            | inl e ↦ ap (λ y. (node_now y).0) e
                ∙ ap (λ (r : N × K). r.0) (node_first reading.branch (omega (arith, lt, tops)))
            | inr e ↦ ap (λ y. (node_now y).0) e.0
                ∙ ap (λ (r : N × K). r.0) (node_second reading.branch (omega (arith, lt, tops)))
          ]

      tells : (a b : ℕ) → IsReading from a → IsReading from b
          → by_number twins.layers.ranked.numbers a b ≡ by_node (node_now a) (node_now b)
      tells a b p q =
          ap (λ n. nat_cmp n (slice_index twins.layers.ranked.numbers b)) (top_number a p)
          ∙ ap (nat_cmp (slice_index from.layers.ranked.numbers p.branch
          + slice_index from.layers.ranked.numbers p.branch)) (top_number b q)
          ∙ double_order (slice_index from.layers.ranked.numbers p.branch) (slice_index from.layers.ranked.numbers
          q.branch)
          ∙ stands.tops.node_data p.branch q.branch p.low q.low
          ∙ ap (λ n. compare n (node q.branch)) (sym (top_node a p))
          ∙ ap (compare (node_now a).0) (sym (top_node b q))

      -- two that tie are unresolved: two readings of a branch that is, or readings of branches that tie
      tied_flag : (a b : ℕ) (p : IsReading from a) (q : IsReading from b) → a ≢ b
          → slice_index twins.layers.ranked.numbers a ≡ slice_index twins.layers.ranked.numbers b
          → has_flag from.unresolved p.branch ≡ true
      tied_flag a b p q differ tie = elim (cases_same p.branch q.branch) [
        | inl same ↦ elim p.which [
          | inl e ↦ elim q.which [
            | inl f ↦ absurd (differ (e ∙ same ∙ sym f))
            | inr f ↦ ap (has_flag from.unresolved) same ∙ f.1
          ]
          | inr e ↦ e.1
        ]
        | inr apart ↦ stands.tops.tie p.branch q.branch p.low q.low apart
            (half_same (slice_index from.layers.ranked.numbers p.branch) (slice_index from.layers.ranked.numbers
            q.branch)
            (sym (top_number a p) ∙ tie ∙ top_number b q))
      ]

      pub twins_stand : StandsAmong (IsReading from) (read_each children) reads by_node twins
      twins_stand = record {
        shown = shown;
        tops = record {
          node_data = tells;
          tie = λ a b p q differ tie. flag_of a p (tied_flag a b p q differ tie);
        };
        ordered = λ t. record { each = λ x y p q. orders t x y p q };
      }
