-- The ranks of a root's ligands turn a sense once for each two of them of which the later one ranks higher.
use Rattle.std.proofs.Common.{◌≡◌, ℕ, zero, suc, ◌+◌, ◌<◌, Bool, true, false, cond, List, [], ◌∷◌, map, length, refl, sym, ap, ◌∙◌, subst, arith}
use Rattle.std.proofs.lemmas.Bool.Decides.{nat_tests}
use Rattle.std.specs.Prelude.{count_by, nat_lt, slice_index_or}
use Rattle.std.specs.List.{AllByRecursion, range_with_len}
use Rattle.std.specs.declared.option.Option.{Option}
use Rattle.std.specs.declared.cmp.Ordering.{Ordering}
use Rattle.std.specs.Cmp.{IsTotalOrder}
use Rattle.std.specs.Cmp.Lexicographic.{slice_cmp}
use Rattle.std.specs.Ordering.{is_lt}
use Rattle.std.proofs.lemmas.Cmp.{on_total, lists_total}
use Rattle.std.proofs.lemmas.Bool.{lt-ltb}
use Rattle.cip_mol.specs.FlatCentres.{inversions}
use Rattle.cip_num.proofs.lemmas.Counting.{count_cons}
use Rattle.cip_rank.specs.Comparison.{insert_down, sorted_down}
use Rattle.cip_rank.proofs.lemmas.Descending.{IsDown, all_by, weak, sorted_is_down, insert_all}
use Rattle.cip_rank.proofs.lemmas.ExtendedOrder.{then_equal}
use Rattle.cip_digraph.specs.declared.decisions.decision.Decision.{Decision}
use Rattle.cip_digraph.specs.units.Ranked.{ligand_order, place_order, side_of, ranked_places}
use Rattle.cip_digraph.specs.Falls.{falls}

not_below : (k n : ℕ) → n < k → nat_lt k n ≡ false
not_below k n h = grind (arith, nat_tests)

-- each number is below all after it
abbrev Ascends : List ℕ → Type 0
Ascends [] = Unit {0}
Ascends (n ∷ ns) = AllByRecursion (λ m. n < m) ns × Ascends ns

-- an element after all others adds nothing, and one before them what it counts
module _ {N : Type 0} (compare : N → N → Ordering) where
  insert_count : (test : N → Bool) (n : N) (ms : List N)
      → count_by test (insert_down compare n ms) ≡ cond (test n) 1 0 + count_by test ms
  insert_count test n [] = count_cons test n []
  insert_count test n (m ∷ ms) = by (is_lt (compare n m)) (insert_count test n ms)
    where
      by : (b : Bool) → count_by test (insert_down compare n ms) ≡ cond (test n) 1 0 + count_by test ms
          → count_by test (cond b (m ∷ insert_down compare n ms) (n ∷ m ∷ ms))
          ≡ cond (test n) 1 0 + count_by test (m ∷ ms)
      by true rest = rw (count_cons test m (insert_down compare n ms), rest, count_cons test m ms) (omega arith)
      by false rest = count_cons test n (m ∷ ms)

  sorted_count : (test : N → Bool) (ns : List N) → count_by test (sorted_down compare ns) ≡ count_by test ns
  sorted_count test [] = refl
  sorted_count test (n ∷ ns) =
      insert_count test n (sorted_down compare ns) ∙ ap (λ k. cond (test n) 1 0 + k) (sorted_count test ns)
      ∙ sym (count_cons test n ns)

  none_count : (test : N → Bool) (ns : List N) → AllByRecursion (λ n. test n ≡ false) ns → count_by test ns ≡ 0
  none_count test [] all = refl
  none_count test (n ∷ ns) all = rw (count_cons test n ns, all.0, none_count test ns all.1) refl

  sorted_all : (P : N → Type 0) (ns : List N) → AllByRecursion P ns → AllByRecursion P (sorted_down compare ns)
  sorted_all P [] all = tt
  sorted_all P (n ∷ ns) all = insert_all compare P n (sorted_down compare ns) all.0 (sorted_all P ns all.1)

-- a place before all others, put into places that descend, adds an inversion for each place above it
module _ (compare : ℕ → ℕ → Ordering) (total : IsTotalOrder compare) where
  insert_turns : (n : ℕ) (ms : List ℕ) → IsDown compare ms → AllByRecursion (λ m. n < m) ms
      → inversions (insert_down compare n ms) ≡ count_by (λ m. is_lt (compare n m)) ms + inversions ms
  insert_turns n [] down before = refl
  insert_turns n (m ∷ ms) down before = by (is_lt (compare n m)) refl (insert_turns n ms down.1 before.1)
    where
      later : count_by (λ k. nat_lt k m) (insert_down compare n ms) ≡ 1 + count_by (λ k. nat_lt k m) ms
      later = rw (insert_count compare (λ k. nat_lt k m) n ms, lt-ltb n m before.0) refl

      none_below : (ks : List ℕ) → AllByRecursion (λ k. n < k) ks → count_by (λ k. nat_lt k n) ks ≡ 0
      none_below ks all = none_count compare (λ k. nat_lt k n) ks (all_by (λ k h. not_below k n h) ks all)

      by : (b : Bool) → is_lt (compare n m) ≡ b
          → inversions (insert_down compare n ms) ≡ count_by (λ k. is_lt (compare n k)) ms + inversions ms
          → inversions (cond b (m ∷ insert_down compare n ms) (n ∷ m ∷ ms))
          ≡ count_by (λ k. is_lt (compare n k)) (m ∷ ms) + inversions (m ∷ ms)
      by true e rest = rw (later, rest, count_cons (λ k. is_lt (compare n k)) m ms, e) (omega arith)
      by false e rest =
          let none : count_by (λ k. is_lt (compare n k)) (m ∷ ms) ≡ 0 =
          none_count compare (λ k. is_lt (compare n k)) (m ∷ ms)
          (e, all_by (λ k h. (weak total).chain n m k e h) ms down.0) in
          rw (none_below (m ∷ ms) before, none) refl

  sorted_turns : (ns : List ℕ) → Ascends ns → inversions (sorted_down compare ns) ≡ falls compare ns
  sorted_turns [] up = refl
  sorted_turns (n ∷ ns) up =
      insert_turns n (sorted_down compare ns) (sorted_is_down total ns) (sorted_all compare (λ m. n < m) ns up.0)
      ∙ ap (λ k. k + inversions (sorted_down compare ns)) (sorted_count compare (λ m. is_lt (compare n m)) ns)
      ∙ ap (λ k. count_by (λ m. is_lt (compare n m)) ns + k) (sorted_turns ns up.1)

pub range_above : (low start count : ℕ) → low < start → AllByRecursion (λ m. low < m) (range_with_len start count)
range_above low start zero h = tt
range_above low start (suc count) h = (h, range_above low (start + 1) count (omega arith))

range_ascends : (start count : ℕ) → Ascends (range_with_len start count)
range_ascends start zero = tt
range_ascends start (suc count) = (range_above start (start + 1) count (omega arith), range_ascends (start + 1) count)

module _ {X Y : Type 0} (f : X → Y) where
  pub count_mapped : (test : Y → Bool) (xs : List X) → count_by test (map f xs) ≡ count_by (λ x. test (f x)) xs
  count_mapped test [] = refl
  count_mapped test (x ∷ xs) =
      count_cons test (f x) (map f xs) ∙ ap (λ k. cond (test (f x)) 1 0 + k) (count_mapped test xs)
      ∙ sym (count_cons (λ z. test (f z)) x xs)

  pub falls_mapped : (compare : Y → Y → Ordering) (xs : List X)
      → falls compare (map f xs) ≡ falls (λ a b. compare (f a) (f b)) xs
  falls_mapped compare [] = refl
  falls_mapped compare (x ∷ xs) =
      rw (count_mapped (λ later. is_lt (compare (f x) later)) xs, falls_mapped compare xs) refl

places_behind : {X : Type 0} (d x : X) (xs : List X) (start count : ℕ)
    → map (λ i. slice_index_or (x ∷ xs) i d) (range_with_len (start + 1) count)
    ≡ map (λ i. slice_index_or xs i d) (range_with_len start count)
places_behind d x xs start zero = refl
places_behind d x xs start (suc count) =
    let next : start + 1 ≡ suc start = omega arith in
    rw (places_behind d x xs (start + 1) count)
    (ap (λ k. slice_index_or (x ∷ xs) k d ∷ map (λ i. slice_index_or xs i d) (range_with_len (start + 1) count)) next)

all_places : {X : Type 0} (d : X) (xs : List X) → map (λ i. slice_index_or xs i d) (range_with_len 0 (length xs)) ≡ xs
all_places d [] = refl
all_places d (x ∷ xs) = ap (λ rest. x ∷ rest) (places_behind d x xs 0 (length xs) ∙ all_places d xs)

module _ {N : Type 0} (order : N → N → Option Decision) (total : IsTotalOrder (λ a b. side_of (order a b))) where
  abbrev front : List N → List N
  front [] = []
  front (n ∷ ns) = n ∷ []

  sides : (a b : List N) → slice_cmp (λ a b. side_of (order a b)) (front a) (front b) ≡ side_of (ligand_order order a b)
  sides [] [] = refl
  sides [] (b ∷ bs) = refl
  sides (a ∷ aa) [] = refl
  sides (a ∷ aa) (b ∷ bs) = then_equal (side_of (order a b))

  pub ligands_total : IsTotalOrder (λ a b. side_of (ligand_order order a b))
  ligands_total = subst IsTotalOrder (λ i a b. sides a b i) (on_total front (lists_total total))

  -- the inversions of the ranks are the pairs of which the later ligand is higher
  pub ranks_turn : (ligands : List (List N))
      → inversions (ranked_places order ligands) ≡ falls (λ a b. side_of (ligand_order order a b)) ligands
  ranks_turn ligands =
      sorted_turns (λ i j. side_of (place_order order ligands i j))
      (on_total (λ i. slice_index_or ligands i []) ligands_total)
      (range_with_len 0 (length ligands)) (range_ascends 0 (length ligands))
      ∙ sym (falls_mapped (λ i. slice_index_or ligands i []) (λ a b. side_of (ligand_order order a b))
      (range_with_len 0 (length ligands)))
      ∙ ap (falls (λ a b. side_of (ligand_order order a b))) (all_places [] ligands)
