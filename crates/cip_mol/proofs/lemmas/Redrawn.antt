-- Bonds that are drawn anew join the same atoms, so none of them has a fault where none had.
use Rattle.std.proofs.Common.{◌≡◌, ◌⊎◌, ◌<◌, ◌+◌, ◌==◌, ◌&&◌, ◌||◌, ℕ, zero, suc, Bool, true, false, cond, List, [], ◌∷◌, length, map, get_or, refl, sym, ap, ◌∙◌, arith, inl, inr}
use Rattle.std.proofs.lemmas.List.Sums.{sum_by-cons}
use Rattle.cip_mol.specs.Bonds.{degree, joins_same, touches, IsSound}
use Rattle.cip_mol.specs.declared.graph.molecule.Bond.{Bond}
use Rattle.cip_mol.specs.Joins.{JoinsAlike, JoinAlike}
use Rattle.cip_mol.proofs.lemmas.SimpleBonds.{AreSimple, IsJoin, simple_from_sound, sound_from_simple}

abbrev pub SameEnds : Bond → Bond → Type 0
SameEnds old new = ((new.a ≡ old.a) × (new.b ≡ old.b)) ⊎ ((new.a ≡ old.b) × (new.b ≡ old.a))

pub or_turned : (p q : Bool) → (p || q) ≡ (q || p)
or_turned true true = refl
or_turned true false = refl
or_turned false true = refl
or_turned false false = refl

and_turned : (p q : Bool) → (p && q) ≡ (q && p)
and_turned true true = refl
and_turned true false = refl
and_turned false true = refl
and_turned false false = refl

-- what looks at a bond's ends in either order

pub touches_same : (atom : ℕ) (old new : Bond) → SameEnds old new → touches atom new ≡ touches atom old
touches_same atom old new (inl same) = rw (← same.0, ← same.1) refl
touches_same atom old new (inr turned) =
    rw (← turned.1, ← turned.0) (or_turned (new.a == atom) (new.b == atom))

joins_first : (old new bond : Bond) → SameEnds old new → joins_same new bond ≡ joins_same old bond
joins_first old new bond (inl same) = rw (← same.0, ← same.1) refl
joins_first old new bond (inr turned) =
    rw (← turned.1, ← turned.0) (
    or_turned ((new.a == bond.a) && (new.b == bond.b)) ((new.a == bond.b) && (new.b == bond.a))
    ∙ ap (λ k. k || ((new.a == bond.a) && (new.b == bond.b))) (and_turned (new.a == bond.b) (new.b == bond.a))
    ∙ ap (λ k. ((new.b == bond.a) && (new.a == bond.b)) || k) (and_turned (new.a == bond.a) (new.b == bond.b)))

joins_second : (bond old new : Bond) → SameEnds old new → joins_same bond new ≡ joins_same bond old
joins_second bond old new (inl same) = rw (← same.0, ← same.1) refl
joins_second bond old new (inr turned) =
    rw (← turned.1, ← turned.0)
    (or_turned ((bond.a == new.a) && (bond.b == new.b)) ((bond.a == new.b) && (bond.b == new.a)))

-- all bonds before one

pub same_length : (olds news : List Bond) → JoinAlike olds news → length news ≡ length olds
same_length [] [] all = refl
same_length [] (new ∷ news) all = absurd all
same_length (old ∷ olds) [] all = absurd all
same_length (old ∷ olds) (new ∷ news) all = ap suc (same_length olds news all.1)

pub redrawn_at : (olds news : List Bond) (k : ℕ) (d : Bond) → JoinAlike olds news → k < length olds
    → JoinsAlike (get_or olds k d) (get_or news k d)
redrawn_at [] news k d all lt = absurd (omega (arith, lt))
redrawn_at (old ∷ olds) [] k d all lt = absurd all
redrawn_at (old ∷ olds) (new ∷ news) zero d all lt = all.0
redrawn_at (old ∷ olds) (new ∷ news) (suc k) d all lt = redrawn_at olds news k d all.1 (omega (arith, lt))

pub degree_same : (atom : ℕ) (olds news : List Bond) → JoinAlike olds news → degree atom news ≡ degree atom olds
degree_same atom [] [] all = refl
degree_same atom [] (new ∷ news) all = absurd all
degree_same atom (old ∷ olds) [] all = absurd all
degree_same atom (old ∷ olds) (new ∷ news) all =
    let one = λ (bond : Bond). cond (touches atom bond) 1 0 in
    sum_by-cons one new news
    ∙ ap (λ n. n + degree atom news) (ap (λ k. cond k 1 0) (touches_same atom old new all.0.ends))
    ∙ ap (λ n. one old + n) (degree_same atom olds news all.1)
    ∙ sym (sum_by-cons one old olds)

joins_redrawn : (atoms : ℕ) (old new : Bond) → SameEnds old new → IsJoin atoms old → IsJoin atoms new
joins_redrawn atoms old new (inl same) join = record {
  a = rw same.0 join.a;
  b = rw same.1 join.b;
  differ = λ e. join.differ (sym same.0 ∙ e ∙ same.1);
}
joins_redrawn atoms old new (inr turned) join = record {
  a = rw turned.0 join.b;
  b = rw turned.1 join.a;
  differ = λ e. join.differ (sym turned.1 ∙ sym e ∙ turned.0);
}

simple_redrawn : (atoms : ℕ) (olds news : List Bond) → JoinAlike olds news → AreSimple atoms olds → AreSimple atoms news
simple_redrawn atoms olds news all simple = record {
  joins = λ k d lt.
      let within : k < length olds = omega (arith, lt, same_length olds news all) in
      joins_redrawn atoms (get_or olds k d) (get_or news k d) (redrawn_at olds news k d all within).ends (simple.joins k d within);
  once = λ i k d before lt.
      let in_k : k < length olds = omega (arith, lt, same_length olds news all) in
      let in_i : i < length olds = omega (arith, before, in_k) in
      joins_first (get_or olds i d) (get_or news i d) (get_or news k d) (redrawn_at olds news i d all in_i).ends
      ∙ joins_second (get_or olds i d) (get_or olds k d) (get_or news k d) (redrawn_at olds news k d all in_k).ends
      ∙ simple.once i k d before in_k;
  few = λ atom lt. rw (degree_same atom olds news all) (simple.few atom lt);
}

-- bonds that are drawn anew have no fault
pub sound_redrawn : (atoms : ℕ) (olds news : List Bond) → IsSound atoms olds → JoinAlike olds news → IsSound atoms news
sound_redrawn atoms olds news sound all =
    sound_from_simple atoms news (simple_redrawn atoms olds news all (simple_from_sound atoms olds sound))

-- bonds that are changed one by one
pub map_redrawn : (f : Bond → Bond) → ((bond : Bond) → JoinsAlike bond (f bond)) → (bonds : List Bond)
    → JoinAlike bonds (map f bonds)
map_redrawn f alike [] = tt
map_redrawn f alike (bond ∷ bonds) = (alike bond, map_redrawn f alike bonds)
