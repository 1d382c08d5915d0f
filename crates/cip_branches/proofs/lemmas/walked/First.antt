-- A first sphere of branches.
use Rattle.std.proofs.Common.{◌≡◌, ◌<◌, ◌+◌, ◌-◌, ◌++◌, ◌∷◌, ℕ, ℤ, zero, suc, Bool, List, [], length, slice_index, refl, sym, ap, ◌∙◌, subst, arith, inl, inr, append-nil, append_assoc}
use Rattle.std.specs.Ordering.{nat_cmp, int_cmp, then_cmp, on, ordering_then}
use Rattle.std.proofs.lemmas.Bool.{cases_lt}
use Rattle.std.proofs.lemmas.List.{get_or_past}
use Rattle.cip_rank.specs.Ranking.{by_number}
use Rattle.cip_branches.specs.Following.{AreRanked, Begins}
use Rattle.cip_partition.specs.Kids.{kids_of}
use Rattle.cip_branches.specs.SphereColumns.{SphereColumns, cleared, with_new_place, with_sphere, with_tops, begun_with}
use Rattle.cip_branches.specs.Passing.{AreNotedBut}
use Rattle.cip_partition.specs.Parting.{KeepsSphere}
use Rattle.cip_partition.specs.Keys.{AreKeyed, key_of}
use Rattle.cip_partition.specs.Ranked.{Ranked}
use Rattle.cip_partition.specs.Rows.{IsRow, number_in, AreClassed, OrdersPlaces}
use Rattle.cip_branches.specs.Turning.{in_sphere, AreSpheres, SamePlaces}
use Rattle.cip_branches.specs.Walking.{Grows, LastPlaces}
use Rattle.cip_branches.proofs.lemmas.walked.Ranked.{last_after}
use Rattle.cip_branches.proofs.lemmas.walked.Grown.{grows_none, one_more, was_there, is_last, pushed}
use Rattle.cip_branches.proofs.lemmas.refined.Kept.{places_kept, spheres_kept}

-- one more top after the others
pub tops_more : (nodes : List ℕ) (node branch : ℕ) (layers : SphereColumns)
    → with_tops (nodes ++ node ∷ []) branch layers
    ≡ with_new_place node (branch + length nodes) 0 0 (with_tops nodes branch layers)
tops_more [] node branch layers = let none : branch ≡ branch + 0 = omega arith in
    ap (λ b. with_new_place node b 0 0 layers) none
tops_more (n ∷ nodes) node branch layers =
    let next : branch + 1 + length nodes ≡ branch + suc (length nodes) = omega arith in
    tops_more nodes node (branch + 1) (with_new_place n branch 0 0 layers)
    ∙ ap (λ b. with_new_place node b 0 0 (with_tops nodes (branch + 1) (with_new_place n branch 0 0 layers))) next

pub tops_count : (nodes : List ℕ) (branch : ℕ) (layers : SphereColumns)
    → length (with_tops nodes branch layers).place_tree.place_parents ≡ length layers.place_tree.place_parents + length nodes
tops_count [] branch layers = omega arith
tops_count (n ∷ nodes) branch layers =
    let rest = tops_count nodes (branch + 1) (with_new_place n branch 0 0 layers) in
    let one = one_more layers.place_tree.place_parents 0 in
    omega (arith, rest, one)

pub tops_room : (nodes : List ℕ) (branch : ℕ) (layers : SphereColumns)
    → (with_tops nodes branch layers).place_tree.room ≡ layers.place_tree.room
tops_room [] branch layers = refl
tops_room (n ∷ nodes) branch layers = tops_room nodes (branch + 1) (with_new_place n branch 0 0 layers)

pub tops_starts : (nodes : List ℕ) (branch : ℕ) (layers : SphereColumns)
    → (with_tops nodes branch layers).starts ≡ layers.starts
tops_starts [] branch layers = refl
tops_starts (n ∷ nodes) branch layers = tops_starts nodes (branch + 1) (with_new_place n branch 0 0 layers)

pub tops_nodes : (nodes : List ℕ) (branch : ℕ) (layers : SphereColumns)
    → (with_tops nodes branch layers).place_tree.nodes ≡ layers.place_tree.nodes ++ nodes
tops_nodes [] branch layers = sym (append-nil layers.place_tree.nodes)
tops_nodes (n ∷ nodes) branch layers = tops_nodes nodes (branch + 1) (with_new_place n branch 0 0 layers)
    ∙ append_assoc layers.place_tree.nodes (n ∷ []) nodes

-- a branch that was known is unchanged
branch_stays : (nodes : List ℕ) (branch : ℕ) (layers : SphereColumns) (k : ℕ) → k < length layers.place_tree.branches
    → slice_index (with_tops nodes branch layers).place_tree.branches k ≡ slice_index layers.place_tree.branches k
branch_stays [] branch layers k lt = refl
branch_stays (n ∷ nodes) branch layers k lt =
    let one = one_more layers.place_tree.branches branch in
    branch_stays nodes (branch + 1) (with_new_place n branch 0 0 layers) k (omega (arith, lt, one))
    ∙ was_there layers.place_tree.branches branch k lt

-- branches are counted from where the places begin
pub tops_branch : (nodes : List ℕ) (branch : ℕ) (layers : SphereColumns) → length layers.place_tree.branches ≡ branch → (k : ℕ)
    → k < length nodes → slice_index (with_tops nodes branch layers).place_tree.branches (branch + k) ≡ branch + k
tops_branch [] branch layers len k lt = absurd (omega (arith, lt))
tops_branch (n ∷ nodes) branch layers len zero lt =
    let next = with_new_place n branch 0 0 layers in
    let one = one_more layers.place_tree.branches branch in
    let at : branch + 0 ≡ length layers.place_tree.branches = omega (arith, len) in
    branch_stays nodes (branch + 1) next (branch + 0) (omega (arith, one, len))
    ∙ is_last layers.place_tree.branches branch (branch + 0) at ∙ (let same : branch ≡ branch + 0 = omega arith in same)
tops_branch (n ∷ nodes) branch layers len (suc k) lt =
    let next = with_new_place n branch 0 0 layers in
    let one = one_more layers.place_tree.branches branch in
    let move : branch + suc k ≡ branch + 1 + k = omega arith in
    subst (λ p. slice_index (with_tops (n ∷ nodes) branch layers).place_tree.branches p ≡ p) (sym move)
    (tops_branch nodes (branch + 1) next (omega (arith, one, len)) k (omega (arith, lt)))

module _ (old : SphereColumns) where
  abbrev none : SphereColumns
  none = with_sphere (cleared old)

  grown : (nodes : List ℕ) (branch : ℕ) (now : SphereColumns) → Grows none now → Grows none (with_tops nodes branch now)
  grown [] branch now grows = grows
  grown (n ∷ nodes) branch now grows = grown nodes (branch + 1) (with_new_place n branch 0 0 now)
      (pushed none n branch 0 0 now grows refl)

  begins : Grows none none
  begins = grows_none none (record {
    nodes = refl;
    branches = refl;
    firsts = refl;
    counts = refl;
    numbers = refl;
    before = refl;
  })

  module _ (tops : List ℕ) where
    abbrev now : SphereColumns
    now = begun_with tops old

    grows : Grows none (with_tops tops 0 none)
    grows = grown tops 0 none begins

    rows_len : length now.ranked.rows ≡ length now.place_tree.place_parents
    rows_len = let len = grows.rows_len in omega (arith, len)

    starts_are : now.starts ≡ 0 ∷ length now.ranked.rows ∷ []
    starts_are = ap (λ (ns : List ℕ). ns ++ length now.ranked.rows ∷ []) (tops_starts tops 0 none)

    start : (t : ℕ) → slice_index now.starts t ≡ slice_index (0 ∷ length now.ranked.rows ∷ []) t
    start t = ap (λ (ns : List ℕ). slice_index ns t) starts_are

    place_in : (row : ℕ) → row < length now.ranked.rows → slice_index now.ranked.rows row ≡ row
    place_in row lt =
        let same : 0 + (row - 0) ≡ row = omega arith in
        ap (slice_index now.ranked.rows) (sym same) ∙ grows.new_row row (omega arith) (omega (arith, lt, rows_len))

    first_number : (row : ℕ) → row < length now.ranked.rows → number_in now.ranked.rows now.ranked.numbers row ≡ 0
    first_number row lt = ap (slice_index now.ranked.numbers) (place_in row lt)
        ∙ grows.new_number row (omega arith) (omega (arith, lt, rows_len))

    only_first : (t row : ℕ) → row < slice_index now.starts (suc t) → t ≡ 0
    only_first zero row lt = refl
    only_first (suc t) row lt = let bad = start (suc (suc t)) in absurd (omega (arith, lt, bad))

    high : (row : ℕ) → row < slice_index now.starts 1 → row < length now.ranked.rows
    high row lt = let at = start 1 in omega (arith, lt, at)

    pub begun_spheres : AreSpheres (kids_of now.place_tree) now.place_tree.place_parents now.ranked.rows now.starts 0 now.ranked.numbers
    begun_spheres = record {
      rise = λ t le. let t_is : t ≡ 0 = omega (arith, le) in
          rw t_is (let at = start 0 in omega (arith, at));
      ends = λ t row low lt. let at = only_first t row lt in omega (arith, at);
      within = λ t le. let t_is : t ≡ 0 = omega (arith, le) in
          rw t_is (let at = start 1 in omega (arith, at));
      classed = λ t le. let t_is : t ≡ 0 = omega (arith, le) in
          let at = start 0 in
          rw t_is (record {
            head = λ some. first_number (slice_index now.starts 0) (high (slice_index now.starts 0) some) ∙ sym at;
            next = λ row l h. inl (first_number (row + 1) (high (row + 1) h)
                ∙ sym (first_number row (high row (omega (arith, h)))));
          });
      once = λ t u place p q. only_first t p.row p.high ∙ sym (only_first u q.row q.high);
      node_data = λ t place lt p. absurd (omega (arith, lt));
      parent_place = λ t place lt p. absurd (omega (arith, lt));
    }

    all_here : (p : ℕ) → p < length now.place_tree.place_parents → in_sphere now.ranked.rows now.starts 0 p
    all_here p lt =
        let one = start 1 in
        let zero = start 0 in
        record {
          row = p;
          low = omega (arith, zero);
          high = omega (arith, lt, rows_len, one);
          here = place_in p (omega (arith, lt, rows_len));
        }

    pub begun_places : (unresolved : List Bool) → LastPlaces now unresolved 0 0
    begun_places unresolved = record {
      low = λ p at. omega arith;
      high = λ p at.
          let lt = high at.row at.high in
          let is = place_in at.row lt in
          omega (arith, lt, is, at.here, rows_len);
      back = λ p low lt is. all_here p lt;
      inner = λ t p lt at. absurd (omega (arith, lt));
      bare = λ p low lt. grows.new_count p (omega arith) lt;
    }

    pub begun_classed : AreClassed now.ranked.rows now.ranked.numbers 0 (length now.ranked.rows)
    begun_classed = subst (λ n. AreClassed now.ranked.rows now.ranked.numbers n (length now.ranked.rows)) (start 0)
        (subst (AreClassed now.ranked.rows now.ranked.numbers (slice_index now.starts 0)) (start 1)
        (begun_spheres.classed 0 (omega arith)))

    count_is : length now.place_tree.place_parents ≡ length tops
    count_is = let count = tops_count tops 0 none in omega (arith, count)

    pub begun_keyed : (count : ℕ) → ((k : ℕ) → k < length tops → slice_index tops k < count) → AreKeyed count now.place_tree
    begun_keyed count each = record {
      each = λ place lt. subst (λ (ns : List ℕ). slice_index ns place < count) (sym (tops_nodes tops 0 none))
          (each place (omega (arith, lt, count_is)));
    }

    -- all places are in the rows of the first sphere
    pub first_noted : (ranked : Ranked) → KeepsSphere 0 (length now.ranked.rows) now.ranked.rows ranked.rows
        now.ranked.numbers ranked.numbers
        → AreNotedBut ranked.rows 0 (length now.ranked.rows) now.before ranked.numbers
    first_noted ranked kept = record {
      each = λ place none. elim (cases_lt place (length now.place_tree.place_parents)) [
        | inl lt ↦ absurd (none (kept.back place (record {
          row = place;
          low = omega arith;
          high = omega (arith, lt, rows_len);
          here = place_in place (omega (arith, lt, rows_len));
        })))
        | inr ge ↦
            get_or_past now.before place 0 (omega (arith, ge, grows.entries.before))
            ∙ sym (get_or_past ranked.numbers place 0 (omega (arith, ge, grows.entries.numbers, kept.len)))
      ];
    }

    -- what the first sphere is where its classes are split by keys
    module _ (key : ℕ → ℤ) (ranked : Ranked) (before : List ℕ)
        (kept : KeepsSphere 0 (length now.ranked.rows) now.ranked.rows ranked.rows now.ranked.numbers ranked.numbers)
        (split : OrdersPlaces (IsRow now.ranked.rows 0 (length now.ranked.rows)) (then_cmp
        (by_number now.ranked.numbers) (on key int_cmp)) ranked.numbers) where
      from_start : KeepsSphere (slice_index now.starts 0) (slice_index now.starts 1) now.ranked.rows ranked.rows
          now.ranked.numbers ranked.numbers
      from_start = subst (λ n. KeepsSphere n (slice_index now.starts 1) now.ranked.rows ranked.rows now.ranked.numbers
          ranked.numbers) (sym (start 0)) (subst (λ n. KeepsSphere 0 n now.ranked.rows ranked.rows now.ranked.numbers
          ranked.numbers) (sym (start 1)) kept)

      places : SamePlaces now.ranked.rows ranked.rows now.starts
      places = places_kept (kids_of now.place_tree) now.place_tree.place_parents now.ranked.rows now.starts 0 now.ranked.numbers begun_spheres 0
          (omega arith) ranked.rows ranked.numbers from_start

      abbrev ranked_now : SphereColumns
      ranked_now = record now { ranked = ranked; before = before }

      pub first_ranked : before ≡ ranked.numbers → AreRanked ranked_now 0
      first_ranked noted = record {
        spheres = spheres_kept (kids_of now.place_tree) now.place_tree.place_parents now.ranked.rows now.starts 0 now.ranked.numbers
            begun_spheres 0 (omega arith) ranked.rows ranked.numbers from_start;
        count = ap (λ (ns : List ℕ). length ns) starts_are;
        ends = start 1 ∙ sym places.len;
        before = noted;
        steady = λ t a b lt p q tie. absurd (omega (arith, lt));
      }

      pub first_places : (unresolved : List Bool) → LastPlaces ranked_now unresolved 0 0
      first_places unresolved = last_after now ranked before places unresolved 0 0 (begun_places unresolved)

      row_of : (k : ℕ) → k < length tops → k < length now.ranked.rows
      row_of k lt = omega (arith, lt, count_is, rows_len)

      pub first_begins : (keys : List ℤ) → ((k : ℕ) → key k ≡ key_of keys now.place_tree k) → Begins tops keys ranked_now
      first_begins keys same = record {
        count = count_is;
        nodes = tops_nodes tops 0 none;
        branch = λ k lt. let at : 0 + k ≡ k = omega arith in
            subst (λ p. slice_index now.place_tree.branches p ≡ p) at (tops_branch tops 0 none refl k lt);
        here = λ k lt. places.here 0 k (all_here k (omega (arith, lt, count_is)));
        ordered = λ a b la lb.
            let at_a : IsRow now.ranked.rows 0 (length now.ranked.rows) a = record {
              row = a;
              low = omega arith;
              high = row_of a la;
              here = place_in a (row_of a la);
            } in
            let at_b : IsRow now.ranked.rows 0 (length now.ranked.rows) b = record {
              row = b;
              low = omega arith;
              high = row_of b lb;
              here = place_in b (row_of b lb);
            } in
            let zero_a = grows.new_number a (omega arith) (omega (arith, la, count_is)) in
            let zero_b = grows.new_number b (omega arith) (omega (arith, lb, count_is)) in
            split.each a b at_a at_b
            ∙ ap (λ r. ordering_then r (int_cmp (key a) (key b)))
            (ap (λ n. nat_cmp n (slice_index now.ranked.numbers b)) zero_a ∙ ap (nat_cmp 0) zero_b)
            ∙ ap (λ z. int_cmp z (key b)) (same a) ∙ ap (int_cmp (key_of keys now.place_tree a)) (same b);
      }
