-- One item more of those that are made one by one.
use Rattle.std.proofs.Common.{◌≡◌, ◌<◌, ◌+◌, ℕ, List, [], ◌∷◌, ◌++◌, length, take, get_or, map, refl}
use Rattle.std.proofs.lemmas.List.{take_more, map-append}

pub mapped_more : {A B : Type 0} (f : A → B) (xs : List A) (n : ℕ) (d : A) (before : List B) (y : B) → n < length xs
    → before ≡ map f (take n xs) → y ≡ f (get_or xs n d) → before ++ y ∷ [] ≡ map f (take (n + 1) xs)
mapped_more f xs n d before y more so_far next =
    rw (take_more xs n d more, map-append f (take n xs) (get_or xs n d ∷ []), so_far, next) refl
