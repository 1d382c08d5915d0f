-- How often numbers are in lists.
use Rattle.std.proofs.Common.{◌≡◌, ℕ, zero, suc, ◌+◌, ◌<◌, ◌≤◌, ◌==◌, Bool, true, false, not, cond, List, [], ◌∷◌, ◌++◌, filter, length, slice_index, refl, sym, ap, ◌∙◌, arith, inl, inr, eq-eqb}
use Rattle.std.specs.List.{flat_map, AllByRecursion}
use Rattle.std.proofs.lemmas.Bool.{ne_eqb, both_ways, cases_order}
use Rattle.cip_rank.specs.Tree.{children_from, children_of}
use Rattle.cip_rank.proofs.lemmas.Children.{children_are}
use Rattle.cip_rank.proofs.lemmas.Descending.{all_by}
use Rattle.cip_rank.specs.View.{parent_list}

pub children_below : (ps : List ℕ) (n : ℕ) → AllByRecursion (λ c. c < length ps) (children_of ps n)
children_below ps n = all_by (λ c is. is.below) (children_of ps n) (children_are ps n)

abbrev pub one_if : Bool → ℕ
one_if true = 1
one_if false = 0

abbrev pub times : ℕ → List ℕ → ℕ
times x [] = 0
times x (y ∷ ys) = one_if (x == y) + times x ys

pub off : (x y : ℕ) → (x ≡ y → ⊥) → one_if (x == y) ≡ 0
off x y h = ap one_if (ne_eqb x y h)

pub on : (x y : ℕ) → x ≡ y → one_if (x == y) ≡ 1
on x y h = ap one_if (eq-eqb x y h)

pub times_append : (x : ℕ) (xs ys : List ℕ) → times x (xs ++ ys) ≡ times x xs + times x ys
times_append x [] ys = omega arith
times_append x (y ∷ xs) ys = omega (arith, times_append x xs ys)

pub times_flat : (x p : ℕ) (f : ℕ → List ℕ) (ns : List ℕ) → AllByRecursion (λ n. times x (f n) ≡ one_if (p == n)) ns → times x (flat_map f ns) ≡ times p ns
times_flat x p f [] all = refl
times_flat x p f (n ∷ ns) all = omega (arith, times_append x (f n) (flat_map f ns), times_flat x p f ns all.1, all.0)

pub times_flat_none : (x : ℕ) (f : ℕ → List ℕ) (ns : List ℕ) → AllByRecursion (λ n. times x (f n) ≡ 0) ns → times x (flat_map f ns) ≡ 0
times_flat_none x f [] all = refl
times_flat_none x f (n ∷ ns) all = omega (arith, times_append x (f n) (flat_map f ns), times_flat_none x f ns all.1, all.0)

times_children_low : (i : ℕ) (ps : List ℕ) (n x : ℕ) → x < i → times x (children_from i ps n) ≡ 0
times_children_low i [] n x h = refl
times_children_low i (p ∷ ps) n x h =
    let rest : times x (children_from (i + 1) ps n) ≡ 0 = times_children_low (i + 1) ps n x (omega arith) in
    let none : one_if (x == i) ≡ 0 = off x i (λ e. absurd (omega (arith, e, h))) in
    elim (p == n) as (λ b. times x (cond b (i ∷ children_from (i + 1) ps n) (children_from (i + 1) ps n)) ≡ 0)
    [ true ↦ omega (arith, rest, none) | false ↦ rest ]

times_children_at : (i : ℕ) (ps : List ℕ) (n j : ℕ) → j < length ps → times (i + j) (children_from i ps n) ≡ one_if (slice_index ps j == n)
times_children_at i [] n j h = absurd (omega arith)
times_children_at i (p ∷ ps) n zero h =
    let rest : times (i + 0) (children_from (i + 1) ps n) ≡ 0 = times_children_low (i + 1) ps n (i + 0) (omega arith) in
    let here : one_if (i + 0 == i) ≡ 1 = on (i + 0) i (omega arith) in
    elim (p == n) as (λ b. times (i + 0) (cond b (i ∷ children_from (i + 1) ps n) (children_from (i + 1) ps n)) ≡ one_if b)
    [ true ↦ omega (arith, rest, here) | false ↦ rest ]
times_children_at i (p ∷ ps) n (suc j) h =
    let move : i + suc j ≡ i + 1 + j = omega arith in
    let rest : times (i + suc j) (children_from (i + 1) ps n) ≡ one_if (slice_index ps j == n) = ap (λ k. times k (children_from (i + 1) ps n)) move ∙ times_children_at (i + 1) ps n j (omega arith) in
    let none : one_if (i + suc j == i) ≡ 0 = off (i + suc j) i (λ e. absurd (omega (arith, e))) in
    elim (p == n) as (λ b. times (i + suc j) (cond b (i ∷ children_from (i + 1) ps n) (children_from (i + 1) ps n)) ≡ one_if (slice_index ps j == n))
    [ true ↦ omega (arith, rest, none) | false ↦ rest ]

-- a node is among the children of its parent alone
pub times_children : (ps : List ℕ) (n x : ℕ) → 0 < x → x < length ps → times x (children_of ps n) ≡ one_if (slice_index ps x == n)
times_children [] n x some h = absurd (omega arith)
times_children (root ∷ ps) n zero some h = absurd (omega arith)
times_children (root ∷ ps) n (suc j) some h =
    let move : suc j ≡ 1 + j = omega arith in
    ap (λ k. times k (children_from 1 ps n)) move ∙ times_children_at 1 ps n j (omega arith)

pub times_children_zero : (ps : List ℕ) (n : ℕ) → times 0 (children_of ps n) ≡ 0
times_children_zero [] n = refl
times_children_zero (root ∷ ps) n = times_children_low 1 ps n 0 (omega arith)

module _ (way : ℕ → Bool) (x : ℕ) where
  kept_by : way x ≡ false → (y : ℕ) (ys zs : List ℕ) → times x zs ≡ times x ys → (b : Bool) → way y ≡ b → times x (cond (not b) (y ∷ zs) zs) ≡ one_if (x == y) + times x ys
  kept_by no_ y ys zs rest true e = let none : one_if (x == y) ≡ 0 = off x y (λ same. both_ways (way x) no_ (ap way same ∙ e)) in omega (arith, rest, none)
  kept_by no_ y ys zs rest false e = ap (λ k. one_if (x == y) + k) rest

  pub times_kept : way x ≡ false → (xs : List ℕ) → times x (filter (λ c. not (way c)) xs) ≡ times x xs
  times_kept no_ [] = refl
  times_kept no_ (y ∷ ys) = kept_by no_ y ys (filter (λ c. not (way c)) ys) (times_kept no_ ys) (way y) refl

  gone_by : way x ≡ true → (y : ℕ) (zs : List ℕ) → times x zs ≡ 0 → (b : Bool) → way y ≡ b → times x (cond (not b) (y ∷ zs) zs) ≡ 0
  gone_by yes_ y zs rest true e = rest
  gone_by yes_ y zs rest false e = let none : one_if (x == y) ≡ 0 = off x y (λ same. both_ways (way x) (ap way same ∙ e) yes_) in omega (arith, rest, none)

  pub times_gone : way x ≡ true → (xs : List ℕ) → times x (filter (λ c. not (way c)) xs) ≡ 0
  times_gone yes_ [] = refl
  times_gone yes_ (y ∷ ys) = gone_by yes_ y (filter (λ c. not (way c)) ys) (times_gone yes_ ys) (way y) refl

module _ (ps : List ℕ) (n x : ℕ) where
  pub times_root : n ≡ 0 → times x (parent_list ps n) ≡ 0
  times_root e = ap (λ b. times x (cond b [] (slice_index ps n ∷ []))) (eq-eqb n 0 e)

  pub times_parent : 0 < n → times x (parent_list ps n) ≡ one_if (x == slice_index ps n)
  times_parent some = ap (λ b. times x (cond b [] (slice_index ps n ∷ []))) (ne_eqb n 0 (λ e. absurd (omega (arith, e, some)))) ∙ omega arith

  pub times_parent_none : (0 < n → x ≡ slice_index ps n → ⊥) → times x (parent_list ps n) ≡ 0
  times_parent_none h = elim (cases_order 0 n) [
    | inl z ↦ times_root (sym z)
    | inr (inl some) ↦ times_parent some ∙ off x (slice_index ps n) (h some)
    | inr (inr less) ↦ absurd (omega arith)
  ]

-- all of the numbers below k together
total : ℕ → List ℕ → ℕ
total zero xs = 0
total (suc k) xs = total k xs + times k xs

module _ (y : ℕ) (ys : List ℕ) where
  total_low : (k : ℕ) → k ≤ y → total k (y ∷ ys) ≡ total k ys
  unfolding total
  total_low zero h = refl
  total_low (suc k) h = let none : one_if (k == y) ≡ 0 = off k y (λ e. absurd (omega (arith, e, h))) in let rest : total k (y ∷ ys) ≡ total k ys = total_low k (omega arith) in omega (arith, none, rest)

  total_high : (k : ℕ) → y < k → total k (y ∷ ys) ≡ 1 + total k ys
  unfolding total
  total_high zero h = absurd (omega arith)
  total_high (suc k) h = elim (cases_order k y) [
    | inl e ↦ let one = on k y e in let rest : total k (y ∷ ys) ≡ total k ys = total_low k (omega arith) in omega (arith, one, rest)
    | inr (inl less) ↦ absurd (omega arith)
    | inr (inr more) ↦ let none : one_if (k == y) ≡ 0 = off k y (λ e. absurd (omega (arith, e, more))) in let rest : total k (y ∷ ys) ≡ 1 + total k ys = total_high k more in omega (arith, none, rest)
  ]

total_none : (k : ℕ) → total k [] ≡ 0
unfolding total
total_none zero = refl
total_none (suc k) = omega (arith, total_none k)

total_len : (k : ℕ) (xs : List ℕ) → AllByRecursion (λ x. x < k) xs → total k xs ≡ length xs
total_len k [] all = total_none k
total_len k (x ∷ xs) all = omega (arith, total_high x xs k all.0, total_len k xs all.1)

total_le : (k : ℕ) (xs : List ℕ) → ((x : ℕ) → x < k → times x xs ≤ 1) → total k xs ≤ k
unfolding total
total_le zero xs h = omega arith
total_le (suc k) xs h = let here : times k xs ≤ 1 = h k (omega arith) in let rest : total k xs ≤ k = total_le k xs (λ x lt. h x (omega arith)) in omega arith

-- a list of numbers below k, none of them twice, has at most k
pub at_most : (k : ℕ) (xs : List ℕ) → AllByRecursion (λ x. x < k) xs → ((x : ℕ) → x < k → times x xs ≤ 1) → length xs ≤ k
at_most k xs below few = omega (arith, total_len k xs below, total_le k xs few)
