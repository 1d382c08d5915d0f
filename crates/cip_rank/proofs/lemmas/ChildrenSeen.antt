-- The children that a node has in a view.
use Rattle.std.proofs.Common.{◌≡◌, ℕ, zero, suc, ◌+◌, ◌-◌, ◌<◌, ◌≤◌, ◌==◌, Bool, true, false, not, cond, List, [], ◌∷◌, ◌++◌, filter, length, slice_index, refl, sym, ap, ◌∙◌, arith, inl, inr, eq-eqb}
use Rattle.std.specs.List.{AllByRecursion, range_with_len}
use Rattle.std.proofs.lemmas.List.Elements.{filter-append}
use Rattle.cip_rank.proofs.lemmas.Ranges.{range_more}
use Rattle.std.proofs.lemmas.Bool.{both_ways, cases_order}
use Rattle.cip_rank.specs.Tree.{IsTree, children_of}
use Rattle.cip_rank.proofs.lemmas.Descending.{all_by}
use Rattle.cip_rank.proofs.lemmas.Times.{children_below}
use Rattle.cip_rank.specs.View.{on_way, parent_list, children_off, children_seen}

pub all_append : (P : ℕ → Type 0) (xs ys : List ℕ) → AllByRecursion P xs → AllByRecursion P ys → AllByRecursion P (xs ++ ys)
all_append P [] ys a b = b
all_append P (x ∷ xs) ys a b = (a.0, all_append P xs ys a.1 b)

pub all_kept : (P : ℕ → Type 0) (p : ℕ → Bool) (xs : List ℕ) → AllByRecursion P xs → AllByRecursion P (filter p xs)
all_kept P p [] all = tt
all_kept P p (x ∷ xs) all = elim (p x) as (λ b. AllByRecursion P (cond b (x ∷ filter p xs) (filter p xs))) [ true ↦ (all.0, all_kept P p xs all.1) | false ↦ all_kept P p xs all.1 ]

pub all_at : (P : ℕ → Type 0) (xs : List ℕ) (i : ℕ) → AllByRecursion P xs → i < length xs → P (slice_index xs i)
all_at P [] i all h = absurd (omega arith)
all_at P (x ∷ xs) zero all h = all.0
all_at P (x ∷ xs) (suc i) all h = all_at P xs i all.1 (omega arith)

pub off_below : (way : ℕ → Bool) (ps : List ℕ) → IsTree ps → (n : ℕ) → n < length ps → AllByRecursion (λ c. c < length ps) (children_off way ps n)
off_below way ps tree n h =
    elim (way n) as (λ b. AllByRecursion (λ c. c < length ps) (cond b (filter (λ c. not (way c)) (children_of ps n) ++ parent_list ps n) (children_of ps n))) [
      | true ↦ all_append _ (filter (λ c. not (way c)) (children_of ps n)) (parent_list ps n) (all_kept _ (λ c. not (way c)) (children_of ps n) (children_below ps n)) (top (n == 0) refl)
      | false ↦ children_below ps n
    ]
  where
    top : (b : Bool) → (n == 0) ≡ b → AllByRecursion (λ c. c < length ps) (cond b [] (slice_index ps n ∷ []))
    top true e = tt
    top false e = elim (cases_order 0 n) [
      | inl z ↦ absurd (both_ways (n == 0) e (eq-eqb n 0 (sym z)))
      | inr (inl some) ↦ (let earlier : slice_index ps n < n = tree.behind n some h in omega arith, tt)
      | inr (inr less) ↦ absurd (omega arith)
    ]

pub view_below : (ps : List ℕ) → IsTree ps → (from n : ℕ) → n < length ps → AllByRecursion (λ c. c < length ps) (children_seen ps from n)
unfolding children_seen
view_below ps tree from n h = off_below (on_way ps from) ps tree n h

kept_alike : (p q : ℕ → Bool) (xs : List ℕ) → AllByRecursion (λ c. p c ≡ q c) xs → filter (λ c. not (p c)) xs ≡ filter (λ c. not (q c)) xs
kept_alike p q [] all = refl
kept_alike p q (x ∷ xs) all =
    ap (λ b. cond (not b) (x ∷ filter (λ c. not (p c)) xs) (filter (λ c. not (p c)) xs)) all.0
    ∙ ap (λ ys. cond (not (q x)) (x ∷ ys) ys) (kept_alike p q xs all.1)

off_alike : (way other : ℕ → Bool) (ps : List ℕ) → ((x : ℕ) → x < length ps → way x ≡ other x) → (n : ℕ) → n < length ps → children_off way ps n ≡ children_off other ps n
off_alike way other ps same n h =
    ap (λ b. cond b (filter (λ c. not (way c)) (children_of ps n) ++ parent_list ps n) (children_of ps n)) (same n h)
    ∙ ap (λ ys. cond (other n) (ys ++ parent_list ps n) (children_of ps n)) (kept_alike way other (children_of ps n) (all_by (λ c lt. same c lt) (children_of ps n) (children_below ps n)))

pub off_view : (way : ℕ → Bool) (ps : List ℕ) (from : ℕ) → ((x : ℕ) → x < length ps → way x ≡ on_way ps from x) → (n : ℕ) → n < length ps → children_off way ps n ≡ children_seen ps from n
unfolding children_seen
off_view way ps from same n h = off_alike way (on_way ps from) ps same n h

range_one : (first child : ℕ) → first ≤ child → range_with_len first (child + 1 - first) ≡ range_with_len first (child - first) ++ child ∷ []
range_one first child h =
    let one : child + 1 - first ≡ (child - first) + 1 = omega arith in
    ap (range_with_len first) one ∙ range_more first (child - first) child (omega arith)

pub kept_one : (p : ℕ → Bool) (first child : ℕ) → first ≤ child → filter p (range_with_len first (child + 1 - first)) ≡ filter p (range_with_len first (child - first)) ++ filter p (child ∷ [])
kept_one p first child h = ap (filter p) (range_one first child h) ∙ filter-append p (range_with_len first (child - first)) (child ∷ [])

-- the first of a range keep no more than all
pub kept_part : (p : ℕ → Bool) (a n m : ℕ) → n ≤ m → length (filter p (range_with_len a n)) ≤ length (filter p (range_with_len a m))
kept_part p a zero m h = omega arith
kept_part p a (suc n) zero h = absurd (omega arith)
kept_part p a (suc n) (suc m) h =
    let rest = kept_part p (a + 1) n m (omega arith) in
    elim (p a) as (λ b. length (cond b (a ∷ filter p (range_with_len (a + 1) n)) (filter p (range_with_len (a + 1) n))) ≤ length (cond b (a ∷ filter p (range_with_len (a + 1) m)) (filter p (range_with_len (a + 1) m))))
    [ true ↦ omega (arith, rest) | false ↦ rest ]
