-- Cases of numbers and flags, and facts of all children.
use Rattle.std.proofs.Common.{◌≡◌, ◌≢◌, ◌<◌, ◌≤◌, ◌+◌, ◌-◌, ◌⊎◌, ℕ, zero, suc, Bool, true, false, List, [], ◌∷◌, refl, ◌∙◌, subst, arith, inl, inr}
use Rattle.std.specs.List.{AllByRecursion, range_with_len}
use Rattle.std.proofs.lemmas.Bool.{cases_order}
use Rattle.std.proofs.lemmas.List.Elements.{All-from_recursion}
use Rattle.std.proofs.lemmas.List.FromFn.{length-range_with_len, get_or-range_with_len}
use Rattle.cip_partition.specs.Kids.{IsAmong}

pub cases_same : (i j : ℕ) → (i ≡ j) ⊎ (i ≢ j)
cases_same i j = elim (cases_order i j) [
  | inl same ↦ inl same
  | inr (inl below) ↦ inr (λ e. absurd (omega (arith, e, below)))
  | inr (inr above) ↦ inr (λ e. absurd (omega (arith, e, above)))
]

pub cases_flag : (b : Bool) → (b ≡ true) ⊎ (b ≡ false)
cases_flag true = inl refl
cases_flag false = inr refl

pub not_both : (b : Bool) → b ≡ true → b ≡ false → ⊥
not_both true e f = let bad : true ≡ false = f in cc
not_both false e f = let bad : false ≡ true = e in cc

pub both : (P Q : ℕ → Type 0) (ns : List ℕ) → AllByRecursion P ns → AllByRecursion Q ns
    → AllByRecursion (λ n. P n × Q n) ns
both P Q [] p q = tt
both P Q (n ∷ ns) p q = ((p.0, q.0), both P Q ns p.1 q.1)

-- what holds of all numbers of a range holds of each
pub in_range : (P : ℕ → Type 0) (first count : ℕ) → AllByRecursion P (range_with_len first count) → (k : ℕ)
    → first ≤ k → k < first + count → P k
in_range P first zero all k low high = absurd (omega (arith, low, high))
in_range P first (suc count) all k low high = elim (cases_same first k) [
  | inl same ↦ subst P same all.0
  | inr differ ↦ in_range P (first + 1) count all.1 k (above low differ) (omega (arith, high))
]
  where
    above : first ≤ k → first ≢ k → first + 1 ≤ k
    above le apart = elim (cases_order first k) [
      | inl same ↦ absurd (apart same)
      | inr (inl below) ↦ omega (arith, below)
      | inr (inr over) ↦ absurd (omega (arith, le, over))
    ]

-- and what holds of all of some, of each of them
pub holds_among : (P : ℕ → Type 0) (ns : List ℕ) (n : ℕ) → AllByRecursion P ns → IsAmong ns n → P n
holds_among P ns n all among = subst P among.here (All-from_recursion P ns all among.at 0 among.within)

pub among_range : (first count k : ℕ) → first ≤ k → k < first + count → IsAmong (range_with_len first count) k
among_range first count k low high = record {
  at = k - first;
  within = let len = length-range_with_len first count in omega (arith, low, high, len);
  here = get_or-range_with_len first count (k - first) 0 (omega (arith, low, high)) ∙ back;
}
  where
    back : first + (k - first) ≡ k
    back = omega (arith, low)
