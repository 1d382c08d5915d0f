-- Bonds without a fault, whatever their order: each joins two different atoms, no two join the same ones, and no atom
-- has more than eight. So bonds at other places, and bonds with other ends that keep all this, have no fault either.
use Rattle.std.proofs.Common.{◌≡◌, ◌≢◌, ◌<◌, ◌≤◌, ◌+◌, ◌==◌, ◌||◌, ℕ, zero, suc, Bool, true, false, cond, List, [], ◌∷◌, map, length, take, get_or, All, AllPairs, refl, sym, ap, subst, ◌∙◌, true≢false, eq-eqb, inl, inr, arith}
use Rattle.std.specs.Prelude.{None, nat_le}
use Rattle.std.specs.List.{list_any}
use Rattle.std.proofs.lemmas.Bool.{cases_Bool, cases_order, lt-leb, ne_eqb}
use Rattle.std.proofs.lemmas.Bool.Decides.{nat_tests}
use Rattle.std.proofs.lemmas.List.{get_or-map, get_or-take, length-map, length-take}
use Rattle.std.proofs.lemmas.List.Elements.{All-from_get_or}
use Rattle.std.proofs.lemmas.List.Folds.{list_any_at, list_any_none}
use Rattle.std.proofs.lemmas.List.Sorted.{sum_by-IsPermutation}
use Rattle.std.proofs.lemmas.List.Sums.{sum_by-cons}
use Rattle.cip_mol.specs.Bonds.{cause_of, degree, joins_same, touches, IsSound}
use Rattle.cip_mol.specs.Permutations.{ArePlaces}
use Rattle.cip_mol.specs.RenumberedDrawing.{index_of, placed}
use Rattle.cip_mol.specs.declared.graph.molecule.Bond.{Bond}
use Rattle.cip_mol.proofs.lemmas.OtherEnds.{length-neighbours}
use Rattle.cip_mol.proofs.lemmas.Permutations.{index_below, place_of_index}
use Rattle.cip_mol.proofs.lemmas.Placing.{length-placed, get_or-placed, All-placed, IsPermutation-placed}
use Rattle.cip_mol.proofs.lemmas.SoundBonds.{finds_room, neighbours_few}

pub record IsJoin (atoms : ℕ) (bond : Bond) : Type 0 where
  pub a : bond.a < atoms
  pub b : bond.b < atoms
  pub differ : bond.a ≢ bond.b

-- two bonds that don't join the same atoms
abbrev pub Once : Bond → Bond → Type 0
Once one other = joins_same one other ≡ false

pub record AreSimple (atoms : ℕ) (bonds : List Bond) : Type 0 where
  pub joins : All (IsJoin atoms) bonds
  pub once : AllPairs Once bonds
  pub few : (atom : ℕ) → atom < atoms → degree atom bonds ≤ 8

none_joins : (atoms : ℕ) (before : List Bond) (bond : Bond) → cause_of atoms before bond ≡ None →
    list_any (λ other. joins_same other bond) before ≡ false
unfolding cause_of
none_joins atoms before bond none = grind (arith, nat_tests)

pub simple_from_sound : (atoms : ℕ) (bonds : List Bond) → IsSound atoms bonds → AreSimple atoms bonds
simple_from_sound atoms bonds sound = record {
  joins = λ k d lt.
      let f = finds_room _ _ _ (sound.each k lt d) in record { a = f.a; b = f.b; differ = f.apart };
  once = λ i k d before lt.
      let bond = get_or bonds k d in
      let long = length-take k bonds in
      let none : list_any (λ other. joins_same other bond) (take k bonds) ≡ false =
      none_joins atoms (take k bonds) bond (sound.each k lt d) in
      elim (cases_Bool (joins_same (get_or bonds i d) bond)) [
        | inl same ↦
            let met : list_any (λ other. joins_same other bond) (take k bonds) ≡ true =
            list_any_at (λ other. joins_same other bond) (take k bonds) i d (omega (arith, before, lt, long))
            (ap (λ other. joins_same other bond) (get_or-take k bonds i d before) ∙ same) in
            absurd (true≢false (sym met ∙ none))
        | inr differ ↦ differ
      ];
  few = λ atom lt.
      let most = (neighbours_few atoms atom bonds sound).few in
      let long = length-neighbours atom bonds in
      omega (arith, most, long);
}

none_by : (atoms : ℕ) (before : List Bond) (bond : Bond) → (nat_le atoms bond.a || nat_le atoms bond.b) ≡ false
    → (bond.a == bond.b) ≡ false → list_any (λ other. joins_same other bond) before ≡ false
    → (nat_le 8 (degree bond.a before) || nat_le 8 (degree bond.b before)) ≡ false → cause_of atoms before bond ≡ None
unfolding cause_of
none_by atoms before bond within apart once few = rw (within, apart, once, few) refl

neither : (a b : Bool) → a ≡ false → b ≡ false → (a || b) ≡ false
neither a b e f = ap (λ x. x || b) e ∙ f

-- a bond at an atom is one more than those before it
one_more : (atom : ℕ) (some : List Bond) (k : ℕ) (d : Bond) → k < length some → touches atom (get_or some k d) ≡ true
    → degree atom (take k some) + 1 ≤ degree atom some
one_more atom [] k d lt e = absurd (omega (arith, lt))
one_more atom (bond ∷ some) zero d lt e =
    let all : degree atom (bond ∷ some) ≡ 1 + degree atom some =
    sum_by-cons (λ b. cond (touches atom b) 1 0) bond some ∙ ap (λ t. cond t 1 0 + degree atom some) e in
    let none : degree atom (take 0 (bond ∷ some)) ≡ 0 = refl in
    omega (arith, all, none)
one_more atom (bond ∷ some) (suc k) d lt e =
    let weight : ℕ = cond (touches atom bond) 1 0 in
    let all : degree atom (bond ∷ some) ≡ weight + degree atom some =
    sum_by-cons (λ b. cond (touches atom b) 1 0) bond some in
    let front : degree atom (take (suc k) (bond ∷ some)) ≡ weight + degree atom (take k some) =
    sum_by-cons (λ b. cond (touches atom b) 1 0) bond (take k some) in
    let rest = one_more atom some k d (omega (arith, lt)) e in
    omega (arith, all, front, rest)

pub sound_from_simple : (atoms : ℕ) (bonds : List Bond) → AreSimple atoms bonds → IsSound atoms bonds
sound_from_simple atoms bonds simple = record {
  each = λ k lt d.
      let bond = get_or bonds k d in
      let j = simple.joins k d lt in
      let long = length-take k bonds in
      let room : (atom : ℕ) → atom < atoms → touches atom bond ≡ true → degree atom (take k bonds) < 8 =
      λ atom below e. let more = one_more atom bonds k d lt e in let most = simple.few atom below in
      omega (arith, more, most) in
      none_by atoms (take k bonds) bond
      (neither (nat_le atoms bond.a) (nat_le atoms bond.b) (lt-leb atoms bond.a j.a) (lt-leb atoms bond.b j.b))
      (ne_eqb bond.a bond.b j.differ)
      (list_any_none (λ other. joins_same other bond) (take k bonds)
      (All-from_get_or (λ other. joins_same other bond ≡ false) (take k bonds) d (λ i within.
      let before : i < k = omega (arith, within, long) in
      ap (λ other. joins_same other bond) (get_or-take k bonds i d before) ∙ simple.once i k d before lt)))
      (neither (nat_le 8 (degree bond.a (take k bonds))) (nat_le 8 (degree bond.b (take k bonds)))
      (lt-leb 8 (degree bond.a (take k bonds))
      (room bond.a j.a (ap (λ t. t || (bond.b == bond.a)) (eq-eqb bond.a bond.a refl))))
      (lt-leb 8 (degree bond.b (take k bonds))
      (room bond.b j.b (either_true (bond.a == bond.b) (bond.b == bond.b) (eq-eqb bond.b bond.b refl)))));
}
  where
    either_true : (a b : Bool) → b ≡ true → (a || b) ≡ true
    either_true true b e = refl
    either_true false b e = e

pub joins_same-flip : (one other : Bond) → joins_same one other ≡ joins_same other one
joins_same-flip one other = grind (arith, nat_tests)

module _ (atoms : ℕ) (bonds : List Bond) (simple : AreSimple atoms bonds) where
  pub simple_placed : (none : Bond) (places : List ℕ) → ArePlaces (length bonds) places →
      AreSimple atoms (placed none places bonds)
  simple_placed none places p = record {
    joins = All-placed places bonds p none (IsJoin atoms) simple.joins;
    once = λ i k d before lt.
        let long = length-placed places bonds p none in
        let in_k : k < length bonds = omega (arith, lt, long) in
        let in_i : i < length bonds = omega (arith, before, in_k) in
        rw (get_or-placed places bonds p none i d in_i, get_or-placed places bonds p none k d in_k)
        (by (index_of i places) (index_of k places) (index_below (length bonds) places p i in_i)
        (index_below (length bonds) places p k in_k) d (λ e.
        let same : i ≡ k = sym (place_of_index (length bonds) places p i 0 in_i)
        ∙ ap (λ n. get_or places n 0) e ∙ place_of_index (length bonds) places p k 0 in_k in
        absurd (omega (arith, before, same))));
    few = λ atom lt.
        let same : degree atom bonds ≡ degree atom (placed none places bonds) =
        sum_by-IsPermutation (λ b. cond (touches atom b) 1 0) (placed none places bonds) bonds
        (IsPermutation-placed places bonds p none) in
        let most = simple.few atom lt in omega (arith, same, most);
  }
    where
      by : (i k : ℕ) → i < length bonds → k < length bonds → (d : Bond) → i ≢ k →
          joins_same (get_or bonds i d) (get_or bonds k d) ≡ false
      by i k in_i in_k d differ = elim (cases_order i k) [
        | inl same ↦ absurd (differ same)
        | inr (inl before) ↦ simple.once i k d before in_k
        | inr (inr behind) ↦ joins_same-flip (get_or bonds i d) (get_or bonds k d) ∙ simple.once k i d behind in_i
      ]

  degree-map : (g : Bond → Bond) (atom other : ℕ) (some : List Bond) →
      ((bond : Bond) → IsJoin atoms bond → touches atom (g bond) ≡ touches other bond) → All (IsJoin atoms) some →
      degree atom (map g some) ≡ degree other some
  degree-map g atom other [] same joins = refl
  degree-map g atom other (bond ∷ some) same joins =
      sum_by-cons (λ b. cond (touches atom b) 1 0) (g bond) (map g some)
      ∙ ap (λ t. cond t 1 0 + degree atom (map g some)) (same bond (joins 0 bond (omega arith)))
      ∙ ap (λ n. cond (touches other bond) 1 0 + n)
      (degree-map g atom other some same (λ k d lt. joins (suc k) d (omega (arith, lt))))
      ∙ sym (sum_by-cons (λ b. cond (touches other b) 1 0) bond some)

  -- bonds that keep what they join, up to the names of the atoms
  pub simple_map : (g : Bond → Bond) (from : ℕ → ℕ) →
      ((bond : Bond) → IsJoin atoms bond → IsJoin atoms (g bond)) →
      ((one other : Bond) → IsJoin atoms one → IsJoin atoms other →
      joins_same (g one) (g other) ≡ joins_same one other) → ((atom : ℕ) → atom < atoms → from atom < atoms) →
      ((atom : ℕ) → atom < atoms → (bond : Bond) → IsJoin atoms bond →
      touches atom (g bond) ≡ touches (from atom) bond) → AreSimple atoms (map g bonds)
  simple_map g from joins same below touched = record {
    joins = λ k d lt.
        let within : k < length bonds = let long = length-map bonds g in omega (arith, lt, long) in
        subst (IsJoin atoms) (sym (get_or-map g bonds k d d within)) (joins (get_or bonds k d) (simple.joins k d within));
    once = λ i k d before lt.
        let in_k : k < length bonds = let long = length-map bonds g in omega (arith, lt, long) in
        let in_i : i < length bonds = omega (arith, before, in_k) in
        rw (get_or-map g bonds i d d in_i, get_or-map g bonds k d d in_k)
        (same (get_or bonds i d) (get_or bonds k d) (simple.joins i d in_i) (simple.joins k d in_k)
        ∙ simple.once i k d before in_k);
    few = λ atom lt.
        let e = degree-map g atom (from atom) bonds (touched atom lt) simple.joins in
        let most = simple.few (from atom) (below atom lt) in omega (arith, e, most);
  }
