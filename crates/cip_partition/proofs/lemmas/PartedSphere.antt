-- The classes of a sphere split one after another.
use Rattle.std.proofs.Common.{◌≡◌, ◌≢◌, ◌<◌, ◌≤◌, ◌+◌, ◌-◌, ℕ, Bool, true, false, List, slice_index, refl, sym, ap, ◌∙◌, subst, arith, inl, inr}
use Rattle.std.specs.declared.cmp.Ordering.{Ordering}
use Rattle.std.specs.declared.cmp.Ordering.TheVariants.{Equal}
use Rattle.std.specs.Cmp.{IsTotalOrder}
use Rattle.std.specs.Ordering.{nat_cmp, then_cmp, ordering_then}
use Rattle.std.proofs.lemmas.Bool.{cases_lt, cases_order}
use Rattle.std.proofs.lemmas.Cmp.{tied_itself, nat_cmp_total}
use Rattle.cip_rank.specs.Ranking.{by_number}
use Rattle.cip_rank.proofs.lemmas.NumberedNodes.{equal_is, less_is, greater_is}
use Rattle.cip_partition.specs.Parting.{FlagClasses, PartsRows, IsClass, has_flag, is_class_start, FlagHeads, PartsSphere, EndsClass, StepsOn, HaveFlags}
use Rattle.cip_partition.specs.Rows.{OrdersPlaces, IsRow, number_in, AreClassed}
use Rattle.cip_partition.proofs.lemmas.Cases.{cases_flag, not_both}
use Rattle.cip_partition.proofs.lemmas.ClassInSphere.{place_low, place_high, place_head, outside, inside, apart, there, back, still_classed, shared_tells, one_place}

module _ (compare : ℕ → ℕ → Ordering) (from to : ℕ) (flags : List Bool) (rows numbers : List ℕ)
    (classed : AreClassed rows numbers from to) where
  abbrev Parts : ℕ → List ℕ → List ℕ → Type 0
  Parts row new_rows new = PartsSphere compare from to row flags rows new_rows numbers new

  pub begun : Parts from rows numbers
  begun = record {
    classed = classed;
    there = λ place is. is;
    back = λ place is. is;
    parted = λ a b p q same lt flag. let le = place_low rows numbers from to classed a p in absurd (omega
        (arith, le, lt));
    still = λ place p which. refl;
    apart = λ a b p q differ. refl;
    rows_still = λ k low high. refl;
    kept = record { len = refl; before = λ k lt. refl; behind = λ k le. refl };
    others = λ place none. refl;
    len = refl;
  }

  pub skipped : (row : ℕ) (mid_rows mid : List ℕ) → has_flag flags row ≡ false → Parts row mid_rows mid
      → Parts (row + 1) mid_rows mid
  skipped row mid_rows mid none parts = record {
    classed = parts.classed;
    there = parts.there;
    back = parts.back;
    parted = λ a b p q same lt flag. elim (cases_lt (slice_index numbers a) row) [
      | inl before ↦ parts.parted a b p q same before flag
      | inr on ↦ let at : slice_index numbers a ≡ row = omega (arith, on, lt) in
          absurd (not_both (has_flag flags row) (ap (has_flag flags) (sym at) ∙ flag) none)
    ];
    still = λ place p which. parts.still place p (elim which [
      | inl le ↦ inl (omega (arith, le))
      | inr flag ↦ inr flag
    ]);
    apart = parts.apart;
    rows_still = λ k low high. parts.rows_still k (omega (arith, low)) high;
    kept = parts.kept;
    others = parts.others;
    len = parts.len;
  }

  module _ (heads : FlagHeads rows numbers from to flags) (row : ℕ) (low : from ≤ row) (high : row < to)
      (flag : has_flag flags row ≡ true) (mid_rows mid : List ℕ) (parts : Parts row mid_rows mid) where
    row_is : IsRow rows from to (slice_index rows row)
    row_is = record { row = row; low = low; high = high; here = refl }

    -- a row with a flag begins a class still
    pub at_head : number_in mid_rows mid row ≡ row
    at_head =
        let head = heads.each row low high flag in
        ap (slice_index mid) (parts.rows_still row (omega arith) high)
        ∙ parts.still (slice_index rows row) row_is (inl (omega (arith, head))) ∙ head

    module _ (past : ℕ) (new_rows new : List ℕ) (class : IsClass mid_rows mid from to row past)
        (parted : PartsRows compare row past mid_rows new_rows mid new) where
      -- a place whose number was another one isn't in the class
      not_first : (place : ℕ) → IsRow rows from to place → slice_index numbers place ≢ row → slice_index mid place ≢ row
      not_first place p differ e =
          let head = heads.each row low high flag in
          let here : slice_index mid (slice_index rows row) ≡ row =
          ap (slice_index mid) (sym (parts.rows_still row (omega arith) high)) ∙ at_head in
          let order : by_number mid place (slice_index rows row) ≡ by_number numbers place (slice_index rows row) =
          parts.apart place (slice_index rows row) p row_is (λ same. differ (same ∙ head)) in
          let tie : by_number mid place (slice_index rows row) ≡ Equal =
          ap (λ n. nat_cmp n (slice_index mid (slice_index rows row))) (e ∙ sym here)
          ∙ tied_itself nat_cmp_total (slice_index mid (slice_index rows row)) in
          differ (equal_is (slice_index numbers place) (number_in rows numbers row) (sym order ∙ tie) ∙ head)

      stands : (place : ℕ) → IsRow rows from to place → slice_index numbers place ≢ row
          → slice_index new place ≡ slice_index mid place
      stands place p differ = outside mid_rows mid from to parts.classed row past class compare new_rows new parted place
          (not_first place p differ)

      first_is : (place : ℕ) → IsRow rows from to place → slice_index numbers place ≡ row → slice_index mid place ≡ row
      first_is place p e = parts.still place p (inl (omega (arith, e))) ∙ e

      -- no number of before lies inside of the class
      none_between : (place : ℕ) → IsRow rows from to place → row < slice_index numbers place
          → slice_index numbers place < past → ⊥
      none_between place p above below =
          let n = slice_index numbers place in
          let lt = place_high rows numbers from to classed place p in
          let head : number_in rows numbers n ≡ n = place_head rows numbers from to classed place p in
          let kept : slice_index mid_rows n ≡ slice_index rows n = parts.rows_still n (omega (arith, above)) lt in
          let stood = parts.still (slice_index rows n) (record {
            row = n;
            low = place_low rows numbers from to classed place p;
            high = lt;
            here = refl;
          }) (inl (omega (arith, head, above))) in
          let same : number_in mid_rows mid n ≡ row = class.each n (omega (arith, above)) below in
          let is : n ≡ row = sym (ap (slice_index mid) kept ∙ stood ∙ head) ∙ same in
          omega (arith, is, above)

      pub stepped : Parts past new_rows new
      stepped = record {
        classed = still_classed mid_rows mid from to parts.classed row past class compare new_rows new parted;
        there = λ place is. parts.there place (there mid_rows mid from to parts.classed row past class compare new_rows
            new parted place is);
        back = λ place is. back mid_rows mid from to parts.classed row past class compare new_rows new parted place
            (parts.back place is);
        parted = λ a b p q same lt has. elim (cases_order (slice_index numbers a) row) [
          | inl at ↦ inside mid_rows mid from to parts.classed row past class compare new_rows new parted a b
              (parts.back a p) (parts.back b q) (first_is a p at) (first_is b q (sym same ∙ at))
          | inr (inl before) ↦
              let not_a : slice_index numbers a ≢ row = λ e. absurd (omega (arith, e, before)) in
              let not_b : slice_index numbers b ≢ row = λ e. not_a (same ∙ e) in
              ap (λ n. nat_cmp n (slice_index new b)) (stands a p not_a)
              ∙ ap (nat_cmp (slice_index mid a)) (stands b q not_b) ∙ parts.parted a b p q same before has
          | inr (inr above) ↦ absurd (none_between a p above lt)
        ];
        still = λ place p which. elim which [
          | inl le ↦ let some = class.some in
              stands place p (λ e. absurd (omega (arith, e, le, some)))
              ∙ parts.still place p (inl (omega (arith, le, some)))
          | inr none ↦ stands place p (λ e. not_both (has_flag flags row) flag (ap (has_flag flags) (sym e) ∙ none))
              ∙ parts.still place p (inr none)
        ];
        apart = λ a b p q differ.
            let before = parts.apart a b p q differ in
            let differs : slice_index mid a ≢ slice_index mid b = λ e. differ (equal_is (slice_index numbers a)
            (slice_index numbers b) (sym before ∙ ap (λ n. nat_cmp n (slice_index mid b)) e
            ∙ tied_itself nat_cmp_total (slice_index mid b))) in
            apart mid_rows mid from to parts.classed row past class compare new_rows new parted a b (parts.back a p)
            (parts.back b q) differs ∙ before;
        rows_still = λ k le lt. let some = class.some in parted.kept.behind k le ∙ parts.rows_still k
            (omega (arith, le, some)) lt;
        kept = record {
          len = parted.kept.len ∙ parts.kept.len;
          before = λ k lt. parted.kept.before k (omega (arith, lt, low)) ∙ parts.kept.before k lt;
          behind = λ k le. let within = class.high in parted.kept.behind k (omega (arith, le, within))
              ∙ parts.kept.behind k le;
        };
        others = λ place none. parted.others place (λ k l h e. let within = class.high in none (parts.there place (record {
          row = k;
          low = omega (arith, low, l);
          high = omega (arith, h, within);
          here = e;
        }))) ∙ parts.others place none;
        len = parted.len ∙ parts.len;
      }

  -- all classes with a flag are split, and the places of each other one tie
  pub sphere_parted : (other : ℕ → ℕ → Ordering) (new_rows new : List ℕ) → Parts to new_rows new
      → ((a b : ℕ) → IsRow rows from to a → IsRow rows from to b → slice_index numbers a ≡ slice_index numbers b
      → has_flag flags (slice_index numbers a) ≡ true → compare a b ≡ other a b)
      → ((a b : ℕ) → IsRow rows from to a → IsRow rows from to b → slice_index numbers a ≡ slice_index numbers b
      → has_flag flags (slice_index numbers a) ≡ false → other a b ≡ Equal)
      → OrdersPlaces (IsRow rows from to) (then_cmp (by_number numbers) other) new
  sphere_parted other new_rows new parts agree calm = record {
    each = λ a b p q. elim (cases_order (slice_index numbers a) (slice_index numbers b)) [
      | inl same ↦
          let tie : by_number numbers a b ≡ Equal = ap (λ n. nat_cmp n (slice_index numbers b)) same
          ∙ tied_itself nat_cmp_total (slice_index numbers b) in
          alike a b p q same ∙ sym (ap (λ r. ordering_then r (other a b)) tie)
      | inr (inl below) ↦
          let less = less_is (slice_index numbers a) (slice_index numbers b) below in
          parts.apart a b p q (λ e. absurd (omega (arith, e, below))) ∙ less
          ∙ sym (ap (λ r. ordering_then r (other a b)) less)
      | inr (inr above) ↦
          let greater = greater_is (slice_index numbers a) (slice_index numbers b) above in
          parts.apart a b p q (λ e. absurd (omega (arith, e, above))) ∙ greater
          ∙ sym (ap (λ r. ordering_then r (other a b)) greater)
    ];
  }
    where
      alike : (a b : ℕ) → IsRow rows from to a → IsRow rows from to b → slice_index numbers a ≡ slice_index numbers b
          → by_number new a b ≡ other a b
      alike a b p q same = elim (cases_flag (has_flag flags (slice_index numbers a))) [
        | inl flag ↦ parts.parted a b p q same (place_high rows numbers from to classed a p) flag ∙ agree a b p q same
            flag
        | inr none ↦
            let still_a = parts.still a p (inr none) in
            let still_b = parts.still b q (inr (ap (has_flag flags) (sym same) ∙ none)) in
            ap (λ n. nat_cmp n (slice_index new b)) (still_a ∙ same ∙ sym still_b)
            ∙ tied_itself nat_cmp_total (slice_index new b) ∙ sym (calm a b p q same none)
      ]

  -- the class that begins at a row
  class_is : (row past : ℕ) (mid_rows mid : List ℕ) → from ≤ row → row < to → AreClassed mid_rows mid from to
      → number_in mid_rows mid row ≡ row → EndsClass mid_rows mid row to past → IsClass mid_rows mid from to row past
  class_is row past mid_rows mid low high is head ends = record {
    low = low;
    some = ends.some;
    high = ends.high;
    each = λ k l h. ends.each k l h ∙ head;
    ends = λ lt.
        let some = ends.some in
        let back : (past - 1) + 1 ≡ past = omega (arith, some) in
        let before : number_in mid_rows mid (past - 1) ≡ number_in mid_rows mid row = ends.each (past - 1)
        (omega (arith, some)) (omega (arith, some)) in
        elim (is.next (past - 1) (omega (arith, some, low)) (omega (arith, lt, some))) [
          | inl alike ↦ absurd (ends.ends lt (ap (number_in mid_rows mid) (sym back) ∙ alike ∙ before))
          | inr begins ↦ ap (number_in mid_rows mid) (sym back) ∙ begins ∙ back
        ];
  }

  pub went_on : FlagHeads rows numbers from to flags → (row past : ℕ) → from ≤ row → row < to
      → (mid_rows mid new_rows new : List ℕ)
      → StepsOn compare row to past flags mid_rows new_rows mid new → Parts row mid_rows mid → Parts past new_rows new
  went_on heads row past low high mid_rows mid new_rows new steps parts = elim steps [
    | inl over ↦
        subst (λ k. Parts k new_rows new) (sym over.1)
        (subst (λ xs. Parts (row + 1) xs new) (sym over.2)
        (subst (λ xs. Parts (row + 1) mid_rows xs) (sym over.3) (skipped row mid_rows mid over.0 parts)))
    | inr on ↦
        let head = at_head heads row low high on.0 mid_rows mid parts in
        stepped heads row low high on.0 mid_rows mid parts past new_rows new
        (class_is row past mid_rows mid low high parts.classed head on.1) on.2
  ]

  -- all classes of two and more are split
  pub sphere_split : IsTotalOrder compare → HaveFlags rows numbers from to flags → (new_rows new : List ℕ)
      → Parts to new_rows new → OrdersPlaces (IsRow rows from to) (then_cmp (by_number numbers) compare) new
  sphere_split o have new_rows new parts = sphere_parted compare new_rows new parts (λ a b p q same flag. refl)
      (λ a b p q same none. elim (cases_flag (is_class_start rows numbers (slice_index numbers a) to)) [
        | inl shared ↦
            let n = slice_index numbers a in
            let on = shared_tells n (number_in rows numbers (n + 1)) to shared in
            absurd (not_both (has_flag flags n) (have.each n (place_low rows numbers from to classed a p) on.0 on.1) none)
        | inr single ↦ ap (compare a) (sym (one_place rows numbers from to classed a b p q same single))
            ∙ tied_itself o a
      ])

pub have_flags : (rows numbers : List ℕ) (from to : ℕ) (flags : List Bool) → FlagClasses rows numbers from to to flags
    → HaveFlags rows numbers from to flags
have_flags rows numbers from to flags flagged = record {
  each = λ row low high next. flagged.each row low (omega (arith, high)) high next;
}
