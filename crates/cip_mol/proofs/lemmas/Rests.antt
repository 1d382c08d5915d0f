-- What is left of a list from a place on.
use Rattle.std.proofs.Common.{◌≡◌, ◌+◌, ◌∷◌, ◌||◌, ℕ, suc, Bool, List, Some, ap, refl, arith, drop, drop-cons, slice_get}
use Rattle.std.specs.List.{list_any}
use Rattle.std.proofs.lemmas.Option.{slice_get_within, get_or_from_slice_get}

-- a list from one place on is what is there and the list from the next place on
pub rest_at : {A : Type 0} (xs : List A) (k : ℕ) (x : A) → slice_get xs k ≡ Some x → drop k xs ≡ x ∷ drop (k + 1) xs
rest_at xs k x h =
    let next : suc k ≡ k + 1 = omega arith in
    rw (drop-cons xs k x (slice_get_within xs k x h), get_or_from_slice_get xs k x x h, next) refl

-- some item from one place on passes a test where the one there does, or one from the next place on
pub any_from : {A : Type 0} (test : A → Bool) (xs : List A) (k : ℕ) (x : A) → slice_get xs k ≡ Some x
    → list_any test (drop k xs) ≡ (test x || list_any test (drop (k + 1) xs))
any_from test xs k x h = ap (list_any test) (rest_at xs k x h)
