-- The nodes on the way from a node to the root.
use Rattle.std.proofs.Common.{◌≡◌, ℕ, zero, suc, ◌<◌, ◌≤◌, ◌==◌, ◌&&◌, ◌||◌, not, Bool, true, false, List, length, slice_index, get_or, set, replicate, refl, sym, ap, ◌∙◌, arith, ◌⊎◌, inl, inr, eq-eqb, get_or-set_same, get_or-set_other}
use Rattle.std.proofs.lemmas.Bool.{eqb-true, eqb-false, ne_eqb, or_cases, and_parts, and_from, and_left, or_left, or_right, not-true, not_from_false, not_from_true, cases_Bool, cases_order, cases_eq}
use Rattle.std.proofs.Math.Bool.{or-false}
use Rattle.cip_rank.specs.Tree.{IsTree}
use Rattle.cip_rank.specs.View.{is_above}

-- x is n or is above it
abbrev pub Above : List ℕ → ℕ → ℕ → ℕ → Type 0
Above ps zero n x = n ≡ x
Above ps (suc k) n x = (n ≡ x) ⊎ ((0 < n) × Above ps k (slice_index ps n) x)

pub positive : (n : ℕ) → (n ≡ 0 → ⊥) → 0 < n
positive zero h = absurd (h refl)
positive (suc n) h = omega arith

pub to_above : (ps : List ℕ) (k n x : ℕ) → is_above ps k n x ≡ true → Above ps k n x
to_above ps zero n x h = eqb-true n x h
to_above ps (suc k) n x h = elim (or_cases (n == x) (not (n == 0) && is_above ps k (slice_index ps n) x) h) [
  | inl here ↦ inl (eqb-true n x here)
  | inr up ↦
      let parts = and_parts (not (n == 0)) (is_above ps k (slice_index ps n) x) up in
      inr (positive n (eqb-false n 0 (not-true (n == 0) parts.0)), to_above ps k (slice_index ps n) x parts.1)
]

pub from_above : (ps : List ℕ) (k n x : ℕ) → Above ps k n x → is_above ps k n x ≡ true
from_above ps zero n x h = eq-eqb n x h
from_above ps (suc k) n x (inl e) = or_left _ _ (eq-eqb n x e)
from_above ps (suc k) n x (inr up) =
    let some : 0 < n = up.0 in
    or_right (n == x) _ (and_from _ _ (not_from_false (n == 0) (ne_eqb n 0 (λ z. absurd (omega (arith, z, some))))) (from_above ps k (slice_index ps n) x up.1))

pub start : (ps : List ℕ) (k n x : ℕ) → n ≡ x → Above ps k n x
start ps zero n x e = e
start ps (suc k) n x e = inl e

module _ (ps : List ℕ) (tree : IsTree ps) where
  pub above_le : (k n x : ℕ) → n < length ps → Above ps k n x → x ≤ n
  above_le zero n x h e = omega (arith, e)
  above_le (suc k) n x h (inl e) = omega (arith, e)
  above_le (suc k) n x h (inr up) =
      let earlier : slice_index ps n < n = tree.behind n up.0 h in
      let le : x ≤ slice_index ps n = above_le k (slice_index ps n) x (omega arith) up.1 in
      omega arith

  -- the parent of one that is above is above
  pub closed : (k n x : ℕ) → n < length ps → n ≤ k → Above ps k n x → 0 < x → Above ps k n (slice_index ps x)
  closed zero n x h le e some = absurd (omega (arith, e))
  closed (suc k) n x h le (inl e) some = inr (omega (arith, e), start ps k (slice_index ps n) (slice_index ps x) (ap (slice_index ps) e))
  closed (suc k) n x h le (inr up) some =
      let earlier : slice_index ps n < n = tree.behind n up.0 h in
      inr (up.0, closed k (slice_index ps n) x (omega arith) (omega arith) up.1 some)

  -- no two of them have the same parent
  pub once : (k n a b : ℕ) → n < length ps → Above ps k n a → Above ps k n b → 0 < a → 0 < b → slice_index ps a ≡ slice_index ps b → a ≡ b
  once zero n a b h p q some more same = sym p ∙ q
  once (suc k) n a b h (inl p) (inl q) some more same = sym p ∙ q
  once (suc k) n a b h (inl p) (inr q) some more same =
      let earlier : slice_index ps n < n = tree.behind n q.0 h in
      let le : b ≤ slice_index ps n = above_le k (slice_index ps n) b (omega arith) q.1 in
      let before : slice_index ps b < b = tree.behind b more (omega arith) in
      let e : slice_index ps n ≡ slice_index ps a = ap (slice_index ps) p in
      absurd (omega (arith, e, same))
  once (suc k) n a b h (inr p) (inl q) some more same =
      let earlier : slice_index ps n < n = tree.behind n p.0 h in
      let le : a ≤ slice_index ps n = above_le k (slice_index ps n) a (omega arith) p.1 in
      let before : slice_index ps a < a = tree.behind a some (omega arith) in
      let e : slice_index ps n ≡ slice_index ps b = ap (slice_index ps) q in
      absurd (omega (arith, e, same))
  once (suc k) n a b h (inr p) (inr q) some more same =
      let earlier : slice_index ps n < n = tree.behind n p.0 h in
      once k (slice_index ps n) a b (omega arith) p.1 q.1 some more same

  -- the bound that the search is given doesn't matter
  pub fuel_free : (k j n x : ℕ) → n ≤ k → n ≤ j → n < length ps → is_above ps k n x ≡ is_above ps j n x
  fuel_free zero zero n x a b h = refl
  fuel_free zero (suc j) n x a b h = at_root (suc j) n x (omega arith)
    where
      at_root : (j n x : ℕ) → n ≡ 0 → (n == x) ≡ is_above ps j n x
      at_root zero n x e = refl
      at_root (suc j) n x e = sym (ap (λ b. (n == x) || b) (and_left _ _ (not_from_true (n == 0) (eq-eqb n 0 e))) ∙ or-false (n == x))
  fuel_free (suc k) zero n x a b h = ap (λ b. (n == x) || b) (and_left _ _ (not_from_true (n == 0) (eq-eqb n 0 (omega arith)))) ∙ or-false (n == x)
  fuel_free (suc k) (suc j) n x a b h = elim (cases_order 0 n) [
    | inl z ↦
        let none : not (n == 0) ≡ false = not_from_true (n == 0) (eq-eqb n 0 (sym z)) in
        ap (λ b. (n == x) || b) (and_left _ _ none ∙ sym (and_left _ _ none))
    | inr (inl some) ↦
        let earlier : slice_index ps n < n = tree.behind n some h in
        ap (λ b. (n == x) || (not (n == 0) && b)) (fuel_free k j (slice_index ps n) x (omega arith) (omega arith) (omega arith))
    | inr (inr none) ↦ absurd (omega arith)
  ]

  -- a flag set on the way up
  pub flag_step : (flags : List Bool) (n x : ℕ) → 0 < n → n < length ps → length ps ≤ length flags →
      (get_or (set flags n true) x false || is_above ps (slice_index ps n) (slice_index ps n) x) ≡ (get_or flags x false || is_above ps n n x)
  flag_step flags n x some h len =
      let earlier : slice_index ps n < n = tree.behind n some h in
      let p = slice_index ps n in
      let more : is_above ps n n x ≡ ((n == x) || is_above ps p p x) =
      fuel_free n (suc n) n x (omega arith) (omega arith) h
      ∙ ap (λ b. (n == x) || (b && is_above ps n p x)) (not_from_false (n == 0) (ne_eqb n 0 (λ e. absurd (omega (arith, e, some)))))
      ∙ ap (λ b. (n == x) || b) (fuel_free n p p x (omega arith) (omega arith) (omega arith)) in
      set_on flags n x (is_above ps p p x) (omega arith) ∙ ap (λ b. get_or flags x false || b) (sym more)
    where
      any_true : (m : Bool) → (m || true) ≡ true
      any_true true = refl
      any_true false = refl

      set_on : (flags : List Bool) (n x : ℕ) (a : Bool) → n < length flags → (get_or (set flags n true) x false || a) ≡ (get_or flags x false || ((n == x) || a))
      set_on flags n x a lt = elim (cases_eq x n) [
        | inl e ↦
            ap (λ b. b || a) (ap (λ k. get_or (set flags n true) k false) e ∙ get_or-set_same flags n true false lt)
            ∙ sym (ap (λ b. get_or flags x false || (b || a)) (eq-eqb n x (sym e)) ∙ any_true (get_or flags x false))
        | inr ne ↦
            ap (λ b. b || a) (get_or-set_other flags n x true false ne)
            ∙ ap (λ b. get_or flags x false || (b || a)) (sym (ne_eqb n x (λ e. ne (sym e))))
      ]

pub flag_last : (ps : List ℕ) (flags : List Bool) (n x : ℕ) → n ≡ 0 → 0 < length flags → get_or (set flags 0 true) x false ≡ (get_or flags x false || is_above ps n n x)
flag_last ps flags zero x e h = elim (cases_eq x 0) [
  | inl z ↦
      ap (λ k. get_or (set flags 0 true) k false) z ∙ get_or-set_same flags 0 true false h
      ∙ sym (ap (λ b. get_or flags x false || b) (eq-eqb 0 x (sym z)) ∙ any_true (get_or flags x false))
  | inr ne ↦
      get_or-set_other flags 0 x true false ne
      ∙ sym (ap (λ b. get_or flags x false || b) (ne_eqb 0 x (λ e. ne (sym e))) ∙ or-false (get_or flags x false))
]
  where
    any_true : (m : Bool) → (m || true) ≡ true
    any_true true = refl
    any_true false = refl
flag_last ps flags (suc n) x e h = absurd (omega arith)

-- a flag cleared on the way up
pub clear_step : (ps : List ℕ) → IsTree ps → (flags : List Bool) (n x : ℕ) → 0 < n → n < length ps → length ps ≤ length flags
    → get_or flags x false ≡ is_above ps n n x → get_or (set flags n false) x false ≡ is_above ps (slice_index ps n) (slice_index ps n) x
clear_step ps tree flags n x some h long is =
    let p = slice_index ps n in
    let earlier : p < n = tree.behind n some h in
    elim (cases_eq x n) [
      | inl e ↦
          ap (λ k. get_or (set flags n false) k false) e ∙ get_or-set_same flags n false false (omega arith)
          ∙ sym (elim (cases_Bool (is_above ps p p x)) [
            | inl on ↦ absurd (let le : x ≤ p = above_le ps tree p p x (omega arith) (to_above ps p p x on) in omega (arith, le, e, earlier))
            | inr off ↦ off
          ])
      | inr ne ↦
          get_or-set_other flags n x false false ne ∙ is
          ∙ fuel_free ps tree n (suc n) n x (omega arith) (omega arith) h
          ∙ ap (λ b. b || (not (n == 0) && is_above ps n p x)) (ne_eqb n x (λ e. ne (sym e)))
          ∙ ap (λ b. b && is_above ps n p x) (not_from_false (n == 0) (ne_eqb n 0 (λ e. absurd (omega (arith, e, some)))))
          ∙ fuel_free ps tree n p p x (omega arith) (omega arith) (omega arith)
    ]

pub clear_last : (ps : List ℕ) (flags : List Bool) (n x : ℕ) → n ≡ 0 → 0 < length flags → get_or flags x false ≡ is_above ps n n x → get_or (set flags 0 false) x false ≡ false
clear_last ps flags zero x e h is = elim (cases_eq x 0) [
  | inl z ↦ ap (λ k. get_or (set flags 0 false) k false) z ∙ get_or-set_same flags 0 false false h
  | inr ne ↦ get_or-set_other flags 0 x false false ne ∙ is ∙ ne_eqb 0 x (λ z. ne (sym z))
]
clear_last ps flags (suc n) x e h is = absurd (omega arith)

pub others_stay : (flags : List Bool) (n x count : ℕ) (b : Bool) → n < count → count ≤ x → get_or (set flags n b) x false ≡ get_or flags x false
others_stay flags n x count b low high = get_or-set_other flags n x b false (λ e. absurd (omega (arith, e)))

pub none_set : (count k : ℕ) → get_or (replicate count false) k false ≡ false
none_set zero k = refl
none_set (suc count) zero = refl
none_set (suc count) (suc k) = none_set count k
