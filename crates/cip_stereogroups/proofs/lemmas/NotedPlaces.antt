-- Places that are noted one after the other, the first of each atom alone.
use Rattle.std.proofs.Common.{◌≡◌, ◌≤◌, ◌<◌, ◌+◌, ℕ, List, [], ◌∷◌, ◌++◌, Option, Some, None, Bool, true, false, not, cond, refl, ap, ◌∙◌, length, take, get_or, nat_eq, nat_lt, arith}
use Rattle.std.specs.List.{position, position_or_len}
use Rattle.std.proofs.lemmas.Bool.{eq-eqb, lt-ltb, le-ltb, ltb-true, ltb-false, ne_eqb}
use Rattle.std.proofs.lemmas.List.{take_more, length-append, length-take}
use Rattle.std.proofs.lemmas.List.Folds.{position_or_len_push}
use Rattle.std.proofs.lemmas.List.Sums.{prefix_len-le-length}
use Rattle.cip_stereogroups.specs.Places.{or_here}

-- the first place that passes, with one element more

abbrev placed : ℕ → ℕ → Option ℕ
placed n count = cond (nat_lt n count) (Some n) None

placed_more : (n count : ℕ) (passes : Bool) → n ≤ count
    → placed (cond (nat_eq n count) (count + cond passes 0 1) n) (count + 1) ≡ or_here (placed n count) passes count
placed_more n count passes le = by (nat_lt n count) passes refl
  where
    by : (inside passes : Bool) → nat_lt n count ≡ inside
        → placed (cond (nat_eq n count) (count + cond passes 0 1) n) (count + 1)
        ≡ or_here (cond inside (Some n) None) passes count
    by true passes e =
        let lt = ltb-true n count e in
        let apart : nat_eq n count ≡ false = ne_eqb n count (λ same. omega (arith, lt, same)) in
        let more : nat_lt n (count + 1) ≡ true = lt-ltb n (count + 1) (omega (arith, lt)) in
        rw (apart, more) refl
    by false true e =
        let ge = ltb-false n count e in
        let here : nat_eq n count ≡ true = eq-eqb n count (omega (arith, ge, le)) in
        let still : count + 0 ≡ count = omega arith in
        let more : nat_lt count (count + 1) ≡ true = lt-ltb count (count + 1) (omega arith) in
        rw (here, still, more) refl
    by false false e =
        let ge = ltb-false n count e in
        let here : nat_eq n count ≡ true = eq-eqb n count (omega (arith, ge, le)) in
        let more : nat_lt (count + 1) (count + 1) ≡ false = le-ltb (count + 1) (count + 1) (omega arith) in
        rw (here, more) refl

pub pushed : {X : Type 0} (test : X → Bool) (xs : List X) (x : X)
    → position test (xs ++ x ∷ []) ≡ or_here (position test xs) (test x) (length xs)
pushed test xs x =
    (λ i. placed (position_or_len_push test xs x i) (length-append xs (x ∷ []) i))
    ∙ placed_more (position_or_len test xs) (length xs) (test x) (prefix_len-le-length (λ y. not (test y)) xs)

pub place_more : {X : Type 0} (test : X → Bool) (xs : List X) (i : ℕ) (d : X) → i < length xs
    → position test (take (i + 1) xs) ≡ or_here (position test (take i xs)) (test (get_or xs i d)) i
place_more test xs i d lt =
    let counted : length (take i xs) ≡ i = omega (arith, lt, length-take i xs) in
    ap (position test) (take_more xs i d lt) ∙ pushed test (take i xs) (get_or xs i d)
    ∙ ap (or_here (position test (take i xs)) (test (get_or xs i d))) counted
