-- A node pushed to a tree: its sphere, and which range of children grows.
use Rattle.std.proofs.Common.{
  ◌≡◌,
  ◌≢◌,
  ℕ,
  zero,
  suc,
  ◌+◌,
  ◌-◌,
  ◌<◌,
  ◌≤◌,
  ◌==◌,
  inl,
  inr,
  true,
  false,
  cond,
  List,
  [],
  ◌∷◌,
  ◌++◌,
  length,
  slice_index,
  slice_set,
  refl,
  sym,
  ap,
  ◌∙◌,
  arith,
  add-zero,
  subst,
  length-append,
  eq-eqb,
}
use borrow.Author.Tests.{ne_eqb}
use Rattle.std.proofs.lemmas.Bool.{cases_order}
use Rattle.std.proofs.lemmas.List.{get_or_append_left, get_or-set_same, get_or-set_other, length-set}
use Rattle.std.specs.List.{range_with_len}
use Rattle.cip_rank.specs.Tree.{IsTree, children_from, children_of, spheres_behind, spheres_of, last_parent}
use Rattle.cip_rank.specs.Ranges.{TellChildren, firsts_with, counts_with}
use Rattle.cip_rank.proofs.lemmas.Children.{no_children}
use Rattle.cip_rank.proofs.lemmas.Ranges.{range_more}

children_from_pushed : (i : ℕ) (parents : List ℕ) (p node : ℕ) → children_from i (parents ++ p ∷ [])
    node ≡ children_from i parents node ++ cond (p == node) ((i + length parents) ∷ []) []
children_from_pushed i [] p node = ap (λ k. cond (p == node) (k ∷ []) []) (sym (add-zero i))
children_from_pushed i (q ∷ parents) p node =
    let place : i + 1 + length parents ≡ i + suc (length parents) = omega arith in
    let rest : children_from (i + 1) (parents ++ p ∷ []) node ≡ children_from (i + 1) parents node ++ cond (p == node)
    ((i + suc (length parents)) ∷ []) [] =
    children_from_pushed (i + 1) parents p node ∙ ap (λ k. children_from (i + 1) parents node ++ cond (p == node)
    (k ∷ []) []) place in
    elim (q == node) as (λ b. cond b (i ∷ children_from (i + 1) (parents ++ p ∷ []) node)
    (children_from (i + 1) (parents ++ p ∷ []) node)
    ≡ cond b (i ∷ children_from (i + 1) parents node) (children_from (i + 1) parents node) ++ cond (p == node)
    ((i + suc (length parents)) ∷ []) [])
    [ true ↦ ap (λ ns. i ∷ ns) rest | false ↦ rest ]

pub children_pushed : (parents : List ℕ) (p node : ℕ) → 0 < length parents → children_of (parents ++ p ∷ [])
    node ≡ children_of parents node ++ cond (p == node) (length parents ∷ []) []
children_pushed [] p node some = absurd (omega arith)
children_pushed (root ∷ parents) p node some =
    children_from_pushed 1 parents p node ∙ ap (λ k. children_from 1 parents node ++ cond (p == node) (k ∷ []) [])
    (omega arith)

spheres_behind_pushed : (spheres parents : List ℕ) (p : ℕ) → spheres_behind spheres (parents ++ p ∷ [])
    ≡ spheres_behind spheres parents ++ (slice_index (spheres_behind spheres parents) p + 1) ∷ []
spheres_behind_pushed spheres [] p = refl
spheres_behind_pushed spheres (q ∷ parents) p = spheres_behind_pushed (spheres ++ (slice_index spheres q + 1) ∷ [])
    parents p

pub spheres_pushed : (parents : List ℕ) (p : ℕ) → 0 < length parents → spheres_of (parents ++ p ∷ []) ≡ spheres_of
    parents ++ (slice_index (spheres_of parents) p + 1) ∷ []
spheres_pushed [] p some = absurd (omega arith)
spheres_pushed (root ∷ parents) p some = spheres_behind_pushed (0 ∷ []) parents p

pub index_at_end : (xs : List ℕ) (x : ℕ) → slice_index (xs ++ x ∷ []) (length xs) ≡ x
index_at_end [] x = refl
index_at_end (y ∷ ys) x = index_at_end ys x

-- what holds of each entry, and of one more
pub each_pushed : (P : ℕ → ℕ → Type 0) (xs : List ℕ) (x count : ℕ) → length xs ≡ count
    → ((n : ℕ) → n < count → P n (slice_index xs n)) → P count x
    → (n : ℕ) → n < count + 1 → P n (slice_index (xs ++ x ∷ []) n)
each_pushed P xs x count len each one n h = elim (cases_order n count) [
  | inl new ↦ subst (λ k. P k (slice_index (xs ++ x ∷ []) k)) (sym new)
      (subst (P count) (sym (ap (slice_index (xs ++ x ∷ [])) (sym len) ∙ index_at_end xs x)) one)
  | inr (inl old) ↦ subst (P n) (sym (get_or_append_left xs (x ∷ []) 0 n (omega arith))) (each n old)
  | inr (inr past) ↦ absurd (omega arith)
]

pub last_pushed : (parents : List ℕ) (p : ℕ) → last_parent (parents ++ p ∷ []) ≡ p
last_pushed parents p =
    let at : length (parents ++ p ∷ []) - 1 ≡ length parents = omega (arith, length-append parents (p ∷ [])) in
    ap (slice_index (parents ++ p ∷ [])) at ∙ index_at_end parents p

pub tree_pushed : (parents : List ℕ) (p : ℕ) → p < length parents → IsTree parents → IsTree (parents ++ p ∷ [])
tree_pushed parents p below tree = record {
  behind = λ n some h. each_pushed (λ n q. 0 < n → q < n) parents p (length parents) refl
      (λ n h some. tree.behind n some h) (λ some. below) n
      (omega (arith, h, length-append parents (p ∷ []))) some;
}

append_none : (xs : List ℕ) → xs ++ [] ≡ xs
append_none [] = refl
append_none (x ∷ xs) = ap (λ ys. x ∷ ys) (append_none xs)

-- a range of children with one more child at its end
range_pushed : (first count new_first new_count next : ℕ) → new_count ≡ count + 1 → (count ≡ 0 → new_first ≡ next)
    → (0 < count → new_first ≡ first) → (0 < count → first + count ≡ next)
    → range_with_len first count ++ next ∷ [] ≡ range_with_len new_first new_count
range_pushed first zero new_first new_count next one began went_on end =
    sym (ap (λ a. range_with_len a new_count) (began refl) ∙ ap (range_with_len next) one)
range_pushed first (suc count) new_first new_count next one began went_on end =
    let some : 0 < suc count = omega arith in
    sym (ap (λ a. range_with_len a new_count) (went_on some) ∙ ap (range_with_len first) one
    ∙ range_more first (suc count) next (end some))

-- the columns of ranges, entry by entry, once a child is counted
record Counted (firsts counts new_firsts new_counts : List ℕ) (p next : ℕ) : Type 0 where
  one : slice_index new_counts p ≡ slice_index counts p + 1
  began : slice_index counts p ≡ 0 → slice_index new_firsts p ≡ next
  went_on : 0 < slice_index counts p → slice_index new_firsts p ≡ slice_index firsts p
  other_firsts : (n : ℕ) → n ≢ p → slice_index new_firsts n ≡ slice_index firsts n
  other_counts : (n : ℕ) → n ≢ p → slice_index new_counts n ≡ slice_index counts n
  firsts_len : length new_firsts ≡ length firsts
  counts_len : length new_counts ≡ length counts

counted_by : (firsts counts : List ℕ) (p next : ℕ) → p < length firsts → p < length counts → (b : _)
    → (slice_index counts p == 0) ≡ b
    → Counted firsts counts (cond b (slice_set firsts p next) firsts) (counts_with counts p) p next
counted_by firsts counts p next in_firsts in_counts true e = record {
  one = get_or-set_same counts p _ 0 in_counts;
  began = λ none. get_or-set_same firsts p next 0 in_firsts;
  went_on = λ some. absurd (grind (arith, some, e));
  other_firsts = λ n other. get_or-set_other firsts p n next 0 other;
  other_counts = λ n other. get_or-set_other counts p n _ 0 other;
  firsts_len = length-set firsts p next;
  counts_len = length-set counts p _;
}
counted_by firsts counts p next in_firsts in_counts false e = record {
  one = get_or-set_same counts p _ 0 in_counts;
  began = λ none. absurd (grind (arith, none, e));
  went_on = λ some. refl;
  other_firsts = λ n other. refl;
  other_counts = λ n other. get_or-set_other counts p n _ 0 other;
  firsts_len = refl;
  counts_len = length-set counts p _;
}

module _ (parents firsts counts new_firsts new_counts : List ℕ) (p : ℕ) (below : p < length parents)
    (ordered : last_parent parents ≤ p)
    (node_data : TellChildren parents firsts counts) (counted : Counted firsts counts new_firsts new_counts p
    (length parents)) where
  -- where the parent has children already, they end the tree
  end_of_range : 0 < slice_index counts p → slice_index firsts p + slice_index counts p ≡ length parents
  end_of_range some = elim (cases_order p (last_parent parents)) [
    | inl at ↦ ap (λ k. slice_index firsts k + slice_index counts k) at
        ∙ node_data.last (subst (λ k. 0 < slice_index counts k) at some)
    | inr (inl lower) ↦ absurd (omega arith)
    | inr (inr higher) ↦ absurd (omega (arith, node_data.later p higher below, some))
  ]

  new_end : slice_index new_firsts p + slice_index new_counts p ≡ length parents + 1
  new_end = elim (cases_order 0 (slice_index counts p)) [
    | inl none ↦ let first = counted.began (sym none) in omega (arith, first, counted.one)
    | inr (inl some) ↦ let first = counted.went_on some in omega (arith, first, counted.one, end_of_range some)
    | inr (inr less) ↦ absurd (omega arith)
  ]

  told_firsts_len : length new_firsts ≡ length parents
  told_firsts_len = counted.firsts_len ∙ node_data.firsts_len

  told_counts_len : length new_counts ≡ length parents
  told_counts_len = counted.counts_len ∙ node_data.counts_len

  -- the new node's own range is empty
  children_of_new : IsTree parents → children_of (parents ++ p ∷ []) (length parents) ≡ range_with_len 0 0
  children_of_new tree =
      let other : (p == length parents) ≡ false = ne_eqb p (length parents) (omega arith) in
      children_pushed parents p (length parents) (omega arith)
      ∙ ap (λ b. children_of parents (length parents) ++ cond b (length parents ∷ []) []) other
      ∙ ap (λ ns. ns ++ []) (no_children parents (length parents) tree (omega arith))

  children_of_parent : children_of (parents ++ p ∷ []) p ≡ range_with_len (slice_index new_firsts p)
      (slice_index new_counts p)
  children_of_parent =
      children_pushed parents p p (omega arith)
      ∙ ap (λ b. children_of parents p ++ cond b (length parents ∷ []) []) (eq-eqb p p refl)
      ∙ ap (λ ns. ns ++ length parents ∷ []) (node_data.children p below)
      ∙ range_pushed (slice_index firsts p) (slice_index counts p) (slice_index new_firsts p) (slice_index new_counts p)
      (length parents)
      counted.one counted.began counted.went_on end_of_range

  children_of_other : (n : ℕ) → n < length parents → n ≢ p → children_of (parents ++ p ∷ []) n ≡ range_with_len
      (slice_index new_firsts n) (slice_index new_counts n)
  children_of_other n h other =
      let off : p ≢ n = omega arith in
      children_pushed parents p n (omega arith)
      ∙ ap (λ b. children_of parents n ++ cond b (length parents ∷ []) []) (ne_eqb p n off)
      ∙ append_none (children_of parents n) ∙ node_data.children n h
      ∙ sym (ap (λ a. range_with_len a (slice_index new_counts n)) (counted.other_firsts n other)
      ∙ ap (range_with_len (slice_index firsts n)) (counted.other_counts n other))

  children_of_old : (n : ℕ) → n < length parents → children_of (parents ++ p ∷ []) n ≡ range_with_len
      (slice_index new_firsts n) (slice_index new_counts n)
  children_of_old n h = elim (cases_order n p) [
    | inl here ↦ subst (λ k. children_of (parents ++ p ∷ []) k ≡ range_with_len (slice_index new_firsts k)
        (slice_index new_counts k)) (sym here) children_of_parent
    | inr (inl lower) ↦ children_of_other n h (omega arith)
    | inr (inr higher) ↦ children_of_other n h (omega arith)
  ]

  within_old : (n : ℕ) → n < length parents → slice_index new_firsts n + slice_index new_counts n ≤ length parents + 1
  within_old n h = elim (cases_order n p) [
    | inl here ↦ let end : slice_index new_firsts n + slice_index new_counts n ≡ length parents + 1 =
        subst (λ k. slice_index new_firsts k + slice_index new_counts k ≡ length parents + 1) (sym here) new_end in
        omega (arith, end)
    | inr (inl lower) ↦ omega (
      arith,
      counted.other_firsts n (omega arith),
      counted.other_counts n (omega arith),
      node_data.within n h,
    )
    | inr (inr higher) ↦ omega (
      arith,
      counted.other_firsts n (omega arith),
      counted.other_counts n (omega arith),
      node_data.within n h,
    )
  ]

  entries_of_new : (xs : List ℕ) → length xs ≡ length parents → slice_index (xs ++ 0 ∷ []) (length parents) ≡ 0
  entries_of_new xs len = ap (slice_index (xs ++ 0 ∷ [])) (sym len) ∙ index_at_end xs 0

  entries_of_old : (xs : List ℕ) → length xs ≡ length parents → (n : ℕ) → n < length parents
      → slice_index (xs ++ 0 ∷ []) n ≡ slice_index xs n
  entries_of_old xs len n h = get_or_append_left xs (0 ∷ []) 0 n (omega (arith, len))

  -- a fact about each node's range, where it holds of the old nodes and of the empty range of the new one
  ranges_by : (P : ℕ → ℕ → ℕ → Type 0) → ((n : ℕ) → n < length parents → P n (slice_index new_firsts n)
      (slice_index new_counts n)) → P (length parents) 0 0
      → (n : ℕ) → n < length parents + 1 → P n (slice_index (new_firsts ++ 0 ∷ []) n)
      (slice_index (new_counts ++ 0 ∷ []) n)
  ranges_by P old new n h = elim (cases_order n (length parents)) [
    | inl at ↦ subst (λ k. P k (slice_index (new_firsts ++ 0 ∷ []) k) (slice_index (new_counts ++ 0 ∷ []) k)) (sym at)
        (subst (λ f. P (length parents) f (slice_index (new_counts ++ 0 ∷ []) (length parents)))
        (sym (entries_of_new new_firsts told_firsts_len))
        (subst (P (length parents) 0) (sym (entries_of_new new_counts told_counts_len)) new))
    | inr (inl lower) ↦ subst (λ f. P n f (slice_index (new_counts ++ 0 ∷ []) n))
        (sym (entries_of_old new_firsts told_firsts_len n lower))
        (subst (P n (slice_index new_firsts n)) (sym (entries_of_old new_counts told_counts_len n lower)) (old n lower))
    | inr (inr past) ↦ absurd (omega arith)
  ]

  still_told : IsTree parents → TellChildren (parents ++ p ∷ []) (new_firsts ++ 0 ∷ []) (new_counts ++ 0 ∷ [])
  still_told tree =
      let len : length (parents ++ p ∷ []) ≡ length parents + 1 = length-append parents (p ∷ []) in
      let at = last_pushed parents p in
      let first = entries_of_old new_firsts told_firsts_len p below in
      let count = entries_of_old new_counts told_counts_len p below in
      record {
        firsts_len = omega (arith, len, told_firsts_len, length-append new_firsts (0 ∷ []));
        counts_len = omega (arith, len, told_counts_len, length-append new_counts (0 ∷ []));
        children = λ n h. ranges_by (λ n f c. children_of (parents ++ p ∷ []) n ≡ range_with_len f c) children_of_old
            (children_of_new tree) n (omega (arith, h, len));
        within = λ n h. subst (λ m. slice_index (new_firsts ++ 0 ∷ []) n + slice_index (new_counts ++ 0 ∷ []) n ≤ m)
            (sym len)
            (ranges_by (λ n f c. f + c ≤ length parents + 1) within_old (omega arith) n (omega (arith, h, len)));
        last = λ some. subst (λ q. slice_index (new_firsts ++ 0 ∷ []) q + slice_index (new_counts ++ 0 ∷ []) q ≡ length
            (parents ++ p ∷ [])) (sym at)
            (omega (arith, first, count, new_end, len));
        later = λ n after h. ranges_by (λ n f c. p < n → c ≡ 0)
            (λ n old higher. counted.other_counts n (omega arith) ∙ node_data.later n (omega arith) old) (λ higher. refl) n
            (omega (arith, h, len)) (omega (arith, after, at));
      }

pub still_tell_children : (parents firsts counts : List ℕ) (p : ℕ) → p < length parents → last_parent parents ≤ p
    → IsTree parents → TellChildren parents firsts counts
    → TellChildren (parents ++ p ∷ []) (firsts_with firsts counts p (length parents) ++ 0 ∷ [])
    (counts_with counts p ++ 0 ∷ [])
still_tell_children parents firsts counts p below ordered tree node_data =
    still_told parents firsts counts (firsts_with firsts counts p (length parents)) (counts_with counts p) p below
    ordered node_data
    (counted_by firsts counts p (length parents) (omega (arith, node_data.firsts_len)) (omega (arith, node_data.counts_len))
    (slice_index counts p == 0) refl) tree
