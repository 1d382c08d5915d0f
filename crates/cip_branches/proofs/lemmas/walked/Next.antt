-- The sphere that was walked comes after the others.
use Rattle.std.proofs.Common.{◌≡◌, ◌≢◌, ◌<◌, ◌≤◌, ◌+◌, ◌-◌, ◌++◌, ◌∷◌, ◌⊎◌, ℕ, suc, Bool, List, [], map, length, slice_index, refl, sym, ap, ◌∙◌, subst, arith, inl, inr}
use Rattle.std.specs.List.{AllByRecursion}
use Rattle.std.specs.Ordering.{nat_cmp}
use Rattle.std.proofs.lemmas.Bool.{cases_lt}
use Rattle.std.proofs.lemmas.List.{get_or-append_right, get_or_past}
use Rattle.cip_rank.specs.Comparison.{sorted_down}
use Rattle.cip_rank.proofs.lemmas.Descending.{all_by}
use Rattle.cip_rank.proofs.lemmas.Parts.{map_alike}
use Rattle.cip_partition.specs.Kids.{kid_set, kids_of}
use Rattle.cip_branches.specs.SphereColumns.{SphereColumns, with_sphere}
use Rattle.cip_branches.specs.Passing.{AreNotedBut, AreSteadyButNew}
use Rattle.cip_partition.specs.Keys.{AreKeyed}
use Rattle.cip_partition.specs.Rows.{number_in, AreClassed}
use Rattle.cip_branches.specs.Turning.{in_sphere, AreSpheres}
use Rattle.cip_branches.specs.Walking.{Walks, LastPlaces, MayWalk}
use Rattle.cip_branches.proofs.lemmas.walked.Grown.{was_there, is_last}
use Rattle.cip_branches.proofs.lemmas.refined.Kept.{classed_moves}

module _ (begin : SphereColumns) (first last size : ℕ) (kids_at : ℕ → List ℕ) (unresolved : List Bool)
    (may : MayWalk size kids_at unresolved first last begin)
    (below : (k : ℕ) → k < length begin.ranked.rows → slice_index begin.ranked.rows k < length begin.place_tree.place_parents)
    (now : SphereColumns) (walks : Walks begin first size kids_at unresolved (length begin.place_tree.place_parents) now) where
  abbrev are : AreSpheres (kids_of begin.place_tree) begin.place_tree.place_parents begin.ranked.rows begin.starts last begin.ranked.numbers
  are = may.spheres

  abbrev known : ℕ
  known = length begin.place_tree.place_parents

  abbrev first_row : ℕ
  first_row = length begin.ranked.rows

  abbrev rows : List ℕ
  rows = now.ranked.rows

  abbrev starts : List ℕ
  starts = now.starts ++ length rows ∷ []

  count : length now.starts ≡ last + 2
  count = ap (λ (ns : List ℕ). length ns) walks.grows.starts ∙ may.count

  start_old : (t : ℕ) → t ≤ suc last → slice_index starts t ≡ slice_index begin.starts t
  start_old t le = was_there now.starts (length rows) t (omega (arith, le, count))
      ∙ ap (λ (ns : List ℕ). slice_index ns t) walks.grows.starts

  start_new : slice_index starts (suc (suc last)) ≡ length rows
  start_new = is_last now.starts (length rows) (suc (suc last)) (omega (arith, count))

  start_last : slice_index starts (suc last) ≡ first_row
  start_last = start_old (suc last) (omega arith) ∙ may.ends

  start_beyond : (t : ℕ) → suc (suc last) < t → slice_index starts t ≡ 0
  start_beyond t lt =
      let far : t - length now.starts ≡ suc (t - length now.starts - 1) = omega (arith, lt, count) in
      get_or-append_right now.starts (length rows ∷ []) (length now.starts) t 0 refl (omega (arith, lt, count))
      ∙ ap (slice_index (length rows ∷ [])) far

  old_row : (t row : ℕ) → t ≤ last → row < slice_index begin.starts (suc t) → row < first_row
  old_row t row le high = let within = are.within t le in omega (arith, high, within)

  pub old_at : (t place : ℕ) → t ≤ last → in_sphere begin.ranked.rows begin.starts t place
      → in_sphere rows starts t place
  old_at t place le p = record {
    row = p.row;
    low = subst (λ n. n ≤ p.row) (sym (start_old t (omega (arith, le)))) p.low;
    high = subst (λ n. p.row < n) (sym (start_old (suc t) (omega (arith, le)))) p.high;
    here = walks.grows.row p.row (old_row t p.row le p.high) ∙ p.here;
  }

  pub at_old : (t place : ℕ) → t ≤ last → in_sphere rows starts t place
      → in_sphere begin.ranked.rows begin.starts t place
  at_old t place le p =
      let high = subst (λ n. p.row < n) (start_old (suc t) (omega (arith, le))) p.high in
      record {
        row = p.row;
        low = subst (λ n. n ≤ p.row) (start_old t (omega (arith, le))) p.low;
        high = high;
        here = sym (walks.grows.row p.row (old_row t p.row le high)) ∙ p.here;
      }

  pub is_known : (t place : ℕ) → t ≤ last → in_sphere begin.ranked.rows begin.starts t place → place < known
  is_known t place le p = subst (λ n. n < known) p.here (below p.row (old_row t p.row le p.high))

  new_at : (place : ℕ) → known ≤ place → place < length now.place_tree.place_parents → in_sphere rows starts (suc last) place
  new_at place low high =
      record {
        row = first_row + (place - known);
        low = omega (arith, start_last);
        high = omega (arith, start_new, walks.grows.rows_len, low, high);
        here = walks.grows.new_row place low high;
      }

  -- each row of the new sphere has a new place
  new_row : (row : ℕ) → first_row ≤ row → row < length rows
      → (known ≤ slice_index rows row) × (slice_index rows row < length now.place_tree.place_parents)
  new_row row low high =
      let rows_len = walks.grows.rows_len in
      let more = walks.grows.more in
      let place = known + (row - first_row) in
      let at : first_row + (place - known) ≡ row = omega (arith, low) in
      let is : slice_index rows row ≡ place = ap (slice_index rows) (sym at)
      ∙ walks.grows.new_row place (omega arith) (omega (arith, low, high, rows_len, more)) in
      (omega (arith, is), omega (arith, is, low, high, rows_len, more))

  pub at_new : (place : ℕ) → in_sphere rows starts (suc last) place → (known ≤ place) × (place < length now.place_tree.place_parents)
  at_new place p = subst (λ n. (known ≤ n) × (n < length now.place_tree.place_parents)) p.here (new_row p.row
      (let low = p.low in omega (arith, low, start_last)) (let high = p.high in omega (arith, high, start_new)))

  pub which : (t row : ℕ) → slice_index starts t ≤ row → row < slice_index starts (suc t) → (t ≤ last) ⊎ (t ≡ suc last)
  which t row low high = elim (cases_lt last t) [
    | inr inner ↦ inl inner
    | inl outer ↦ elim (cases_lt (suc last) t) [
      | inr at ↦ inr (omega (arith, outer, at))
      | inl beyond ↦
          let none = start_beyond (suc t) (omega (arith, beyond)) in
          absurd (omega (arith, none, high))
    ]
  ]

  new_number : (row : ℕ) → first_row ≤ row → row < length rows → number_in rows now.ranked.numbers row ≡ first_row
  new_number row low high = let is = new_row row low high in walks.grows.new_number (slice_index rows row) is.0 is.1

  old_number : (t : ℕ) → t ≤ last → (k : ℕ) → slice_index begin.starts t ≤ k → k < slice_index begin.starts (suc t)
      → number_in rows now.ranked.numbers k ≡ number_in begin.ranked.rows begin.ranked.numbers k
  old_number t le k low high =
      let lt = old_row t k le high in
      ap (slice_index now.ranked.numbers) (walks.grows.row k lt)
      ∙ walks.grows.number (slice_index begin.ranked.rows k) (below k lt)

  classed_at : (t : ℕ) → t ≤ suc last → AreClassed rows now.ranked.numbers (slice_index starts t)
      (slice_index starts (suc t))
  classed_at t le = elim (cases_lt last t) [
    | inr inner ↦
        rw (start_old t (omega (arith, inner)), start_old (suc t) (omega (arith, inner)))
        (classed_moves begin.ranked.rows rows begin.ranked.numbers now.ranked.numbers (slice_index begin.starts t)
        (slice_index begin.starts (suc t)) (old_number t inner) (are.classed t inner))
    | inl outer ↦
        let at : suc last ≡ t = omega (arith, outer, le) in
        rw (sym at, start_last, start_new) (record {
          head = λ some. new_number first_row (omega arith) some;
          next = λ row low high. inl (new_number (row + 1) (omega (arith, low)) high
              ∙ sym (new_number row low (omega (arith, high))));
        })
  ]

  pub told_at : (t place : ℕ) → t < suc last → in_sphere rows starts t place
      → AllByRecursion (λ kid. in_sphere rows starts (suc t) kid × (slice_index now.place_tree.place_parents kid ≡ place))
      (kids_of now.place_tree place)
  told_at t place lt p = elim (cases_lt t last) [
    | inl inner ↦
        let was = at_old t place (omega (arith, inner)) p in
        subst (AllByRecursion (λ kid. in_sphere rows starts (suc t) kid × (slice_index now.place_tree.place_parents kid ≡ place)))
        (sym (walks.untouched place (is_known t place (omega (arith, inner)) was) (inl (may.places.inner t place inner
        was))))
        (all_by (λ kid h. (
          old_at (suc t) kid (omega (arith, inner)) h.0,
          walks.grows.parent_place kid (is_known (suc t) kid (omega (arith, inner)) h.0) ∙ h.1,
        )) (kids_of begin.place_tree place) (are.node_data t place inner was))
    | inr outer ↦
        let at : t ≡ last = omega (arith, outer, lt) in
        let was = subst (λ u. in_sphere begin.ranked.rows begin.starts u place) at (at_old t place
        (omega (arith, lt)) p) in
        rw at (all_by (λ kid h. (new_at kid h.0 h.1, h.2)) (kids_of now.place_tree place)
        (walks.done place (may.places.low place was) (may.places.high place was)))
  ]

  pub up_at : (t place : ℕ) → t < suc last → in_sphere rows starts (suc t) place
      → in_sphere rows starts t (slice_index now.place_tree.place_parents place)
  up_at t place lt p = elim (cases_lt t last) [
    | inl inner ↦
        let was = at_old (suc t) place (omega (arith, inner)) p in
        subst (in_sphere rows starts t) (sym (walks.grows.parent_place place (is_known (suc t) place (omega (arith, inner)) was)))
        (old_at t (slice_index begin.place_tree.place_parents place) (omega (arith, inner)) (are.parent_place t place inner was))
    | inr outer ↦
        let at : t ≡ last = omega (arith, outer, lt) in
        let is = at_new place (subst (λ u. in_sphere rows starts (suc u) place) at p) in
        let high = walks.new_high place is.0 is.1 in
        rw at (old_at last (slice_index now.place_tree.place_parents place) (omega arith) (may.places.back (slice_index now.place_tree.place_parents place)
        (walks.new_low place is.0 is.1) high (walks.wanted_above place is.0 is.1)))
  ]

  pub spheres_walked : AreSpheres (kids_of now.place_tree) now.place_tree.place_parents rows starts (suc last) now.ranked.numbers
  spheres_walked = record {
    rise = λ t le. elim (cases_lt last t) [
      | inr inner ↦
          let was = are.rise t inner in
          let one = start_old t (omega (arith, inner)) in
          let two = start_old (suc t) (omega (arith, inner)) in
          omega (arith, was, one, two)
      | inl outer ↦
          let at : suc last ≡ t = omega (arith, outer, le) in
          rw (sym at) (omega (arith, start_last, start_new, walks.grows.rows_len))
    ];
    ends = λ t row low high. elim (which t row low high) [
      | inl inner ↦ omega (arith, inner)
      | inr at ↦ omega (arith, at)
    ];
    within = λ t le. elim (cases_lt last t) [
      | inr inner ↦
          let was = are.within t inner in
          let one = start_old (suc t) (omega (arith, inner)) in
          omega (arith, was, one, walks.grows.rows_len)
      | inl outer ↦
          let at : suc last ≡ t = omega (arith, outer, le) in
          subst (λ u. slice_index starts (suc u) ≤ length rows) at (omega (arith, start_new))
    ];
    classed = classed_at;
    once = λ t u place p q. elim (which t p.row p.low p.high) [
      | inl inner ↦ elim (which u q.row q.low q.high) [
        | inl other ↦ are.once t u place (at_old t place inner p) (at_old u place other q)
        | inr at ↦
            let old = is_known t place inner (at_old t place inner p) in
            let is = at_new place (subst (λ v. in_sphere rows starts v place) at q) in
            absurd (omega (arith, old, is.0))
      ]
      | inr at ↦ elim (which u q.row q.low q.high) [
        | inl other ↦
            let old = is_known u place other (at_old u place other q) in
            let is = at_new place (subst (λ v. in_sphere rows starts v place) at p) in
            absurd (omega (arith, old, is.0))
        | inr too ↦ at ∙ sym too
      ]
    ];
    node_data = told_at;
    parent_place = up_at;
  }

  -- its places are the new ones
  pub places_walked : (others : List Bool) → LastPlaces (with_sphere now) others known (suc last)
  places_walked others = record {
    low = λ p at. (at_new p at).0;
    high = λ p at. (at_new p at).1;
    back = λ p low high is. new_at p low high;
    inner = λ t p lt at. is_known t p (omega (arith, lt)) (at_old t p (omega (arith, lt)) at);
    bare = walks.grows.new_count;
  }

  -- the numbers of all places that aren't new are noted
  pub noted_walked : begin.before ≡ begin.ranked.numbers → AreNotedBut rows (slice_index starts (suc last))
      (slice_index starts (suc (suc last))) now.before now.ranked.numbers
  noted_walked before = record {
    each = λ place none. elim (cases_lt place known) [
      | inl lt ↦ walks.grows.before place lt ∙ ap (λ (ns : List ℕ). slice_index ns place) before
          ∙ sym (walks.grows.number place lt)
      | inr ge ↦ elim (cases_lt place (length now.place_tree.place_parents)) [
        | inl new ↦ absurd (none (new_at place ge new))
        | inr beyond ↦
            get_or_past now.before place 0 (omega (arith, beyond, walks.grows.entries.before))
            ∙ sym (get_or_past now.ranked.numbers place 0 (omega (arith, beyond, walks.grows.entries.numbers)))
      ]
    ];
  }

  none_new : (places : List ℕ) → AllByRecursion (λ kid. slice_index now.before kid ≢ now.place_tree.room) places
      → AllByRecursion (λ kid. slice_index now.before kid ≡ now.place_tree.room) places → places ≡ []
  none_new [] old new = refl
  none_new (kid ∷ places) old new = absurd (old.0 new.0)

  -- where no child is new, sets are those of before: in the last sphere of before there are no others
  pub steady_walked : begin.before ≡ begin.ranked.numbers
      → ((t a b : ℕ) → t < last → in_sphere begin.ranked.rows begin.starts t a
      → in_sphere begin.ranked.rows begin.starts t b
      → slice_index begin.ranked.numbers a ≡ slice_index begin.ranked.numbers b
      → kid_set (kids_of begin.place_tree) begin.ranked.numbers a ≡ kid_set (kids_of begin.place_tree) begin.ranked.numbers b)
      → AreSteadyButNew (kids_of now.place_tree) (in_sphere rows starts) last now.place_tree.room now.before
  steady_walked before steady = record {
    same = λ t a b le p q tie known_a known_b.
        let at_a = at_old t a le p in
        let at_b = at_old t b le q in
        elim (cases_lt t last) [
          | inl inner ↦
              let was : (place : ℕ) → place < known → slice_index now.before place ≡ slice_index begin.ranked.numbers
              place = λ place lt. walks.grows.before place lt ∙ ap (λ (ns : List ℕ). slice_index ns place) before in
              set_is t a inner at_a
              ∙ steady t a b inner at_a at_b
              (sym (was a (is_known t a le at_a)) ∙ tie ∙ was b (is_known t b le at_b))
              ∙ sym (set_is t b inner at_b)
          | inr outer ↦
              let at : t ≡ last = omega (arith, le, outer) in
              ap (λ (ns : List ℕ). sorted_down nat_cmp (map (slice_index now.before) ns))
              (none_new (kids_of now.place_tree a) known_a
              (all_new a (subst (λ u. in_sphere begin.ranked.rows begin.starts u a)
              at at_a)) ∙ sym (none_new (kids_of now.place_tree b) known_b (all_new b
              (subst (λ u. in_sphere begin.ranked.rows begin.starts u b) at at_b))))
        ];
  }
    where
      set_is : (t place : ℕ) → t < last → in_sphere begin.ranked.rows begin.starts t place
          → kid_set (kids_of now.place_tree) now.before place ≡ kid_set (kids_of begin.place_tree) begin.ranked.numbers place
      set_is t place lt p =
          ap (λ (ns : List ℕ). sorted_down nat_cmp (map (slice_index now.before) ns))
          (walks.untouched place (is_known t place (omega (arith, lt)) p) (inl (may.places.inner t place lt p)))
          ∙ ap (sorted_down nat_cmp) (map_alike (slice_index now.before) (slice_index begin.ranked.numbers)
          (kids_of begin.place_tree place) (all_by (λ kid h.
          walks.grows.before kid (is_known (suc t) kid (omega (arith, lt)) h.0)
          ∙ ap (λ (ns : List ℕ). slice_index ns kid) before) (kids_of begin.place_tree place) (are.node_data t place lt p)))

      all_new : (place : ℕ) → in_sphere begin.ranked.rows begin.starts last place
          → AllByRecursion (λ kid. slice_index now.before kid ≡ now.place_tree.room) (kids_of now.place_tree place)
      all_new place p = all_by (λ kid h. walks.grows.new_before kid h.0 h.1 ∙ sym walks.grows.kin_room)
          (kids_of now.place_tree place) (walks.done place (may.places.low place p) (may.places.high place p))

  -- all nodes are nodes of the tree
  pub nodes_walked : (count : ℕ) → size ≤ count → AreKeyed count begin.place_tree → AreKeyed count now.place_tree
  nodes_walked count le keyed = record {
    each = λ place high. elim (cases_lt place known) [
      | inl before ↦ subst (λ n. n < count) (sym (walks.grows.node place before)) (keyed.each place before)
      | inr behind ↦ let lt = walks.new_node place behind high in omega (arith, lt, le)
    ];
  }
