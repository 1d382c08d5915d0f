-- Nodes found among the neighbours of a node.
use Rattle.std.proofs.Common.{◌≡◌, ℕ, zero, suc, ◌+◌, ◌-◌, ◌<◌, Bool, true, false, cond, List, [], ◌∷◌, ◌++◌, slice_index, refl, arith, None, Some, Contains, IfSome}
use Rattle.std.specs.List.{range_with_len}
use Rattle.std.specs.declared.option.Option.{Option}
use Rattle.cip_aux.specs.Neighbours.{first_where, parent_of}

pub first_passed : (test : ℕ → Bool) (start past : ℕ) → start < past → test start ≡ false
    → first_where test (range_with_len (start + 1) (past - (start + 1)))
    ≡ first_where test (range_with_len start (past - start))
first_passed test start past lt fails =
    let one_more : past - start ≡ suc (past - (start + 1)) = omega (arith, lt) in
    rw (one_more, fails) refl

pub first_here : (test : ℕ → Bool) (start past : ℕ) → start < past → test start ≡ true
    → Some start ≡ first_where test (range_with_len start (past - start))
first_here test start past lt passes =
    let one_more : past - start ≡ suc (past - (start + 1)) = omega (arith, lt) in
    rw (one_more, passes) refl

pub first_none : (test : ℕ → Bool) (start past : ℕ) → past - start ≡ 0
    → first_where test (range_with_len start (past - start)) ≡ None
first_none test start past e = rw e refl

pub first_in_front : (test : ℕ → Bool) (xs ys : List ℕ) (n : ℕ) → first_where test xs ≡ Some n
    → first_where test (xs ++ ys) ≡ Some n
first_in_front test [] ys n e = let bad : None ≡ Some n = e in cc
first_in_front test (x ∷ xs) ys n e = by (test x) (λ h. first_in_front test xs ys n h) e
  where
    by : (b : Bool) → (first_where test xs ≡ Some n → first_where test (xs ++ ys) ≡ Some n)
        → cond b (Some x) (first_where test xs) ≡ Some n → cond b (Some x) (first_where test (xs ++ ys)) ≡ Some n
    by true rest h = h
    by false rest h = rest h

pub first_behind : (test : ℕ → Bool) (xs ys : List ℕ) → first_where test xs ≡ None
    → first_where test (xs ++ ys) ≡ first_where test ys
first_behind test [] ys e = refl
first_behind test (x ∷ xs) ys e = by (test x) (λ h. first_behind test xs ys h) e
  where
    by : (b : Bool) → (first_where test xs ≡ None → first_where test (xs ++ ys) ≡ first_where test ys)
        → cond b (Some x) (first_where test xs) ≡ None
        → cond b (Some x) (first_where test (xs ++ ys)) ≡ first_where test ys
    by true rest h = let bad : Some x ≡ None = h in cc
    by false rest h = rest h

pub parent_is : (parents : List ℕ) (node : ℕ) → 0 < node → parent_of parents node ≡ slice_index parents node ∷ []
parent_is parents zero some = absurd (omega arith)
parent_is parents (suc before) some = refl

if_more : (found : Option ℕ) (x : ℕ) (xs : List ℕ) → IfSome found (Contains xs) → IfSome found (Contains (x ∷ xs))
if_more None x xs is = tt
if_more (Some n) x xs is = let lt = is.1 in (suc (is.0), omega (arith, lt), is.2)

-- the first that passes is one of them
pub first_among : (test : ℕ → Bool) (xs : List ℕ) → IfSome (first_where test xs) (Contains xs)
first_among test [] = tt
first_among test (x ∷ xs) = by (test x) (first_among test xs)
  where
    by : (b : Bool) → IfSome (first_where test xs) (Contains xs)
        → IfSome (cond b (Some x) (first_where test xs)) (Contains (x ∷ xs))
    by true rest = (0, omega arith, refl)
    by false rest = if_more (first_where test xs) x xs rest
