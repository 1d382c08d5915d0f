-- One line, or one pair, more of those that are gone through.
use Rattle.std.proofs.Common.{◌≡◌, ◌<◌, ◌+◌, ℕ, List, [], ◌∷◌, ◌++◌, length, take, get_or, map, fold, refl}
use Rattle.std.proofs.lemmas.List.{take_more, map-append}
use Rattle.std.proofs.lemmas.List.Sums.{fold-append}

pub mapped_more : {A B : Type 0} (f : A → B) (xs : List A) (n : ℕ) (d : A) (before : List B) (y : B) → n < length xs
    → before ≡ map f (take n xs) → y ≡ f (get_or xs n d) → before ++ y ∷ [] ≡ map f (take (n + 1) xs)
mapped_more f xs n d before y more so_far next =
    rw (take_more xs n d more, map-append f (take n xs) (get_or xs n d ∷ []), so_far, next) refl

pub folded_more : {A B : Type 0} (f : B → A → B) (b : B) (xs : List A) (n : ℕ) (d : A) (before now : B)
    → n < length xs → before ≡ fold f b (take n xs) → now ≡ f before (get_or xs n d)
    → now ≡ fold f b (take (n + 1) xs)
folded_more f b xs n d before now more so_far next =
    rw (take_more xs n d more, fold-append f b (take n xs) (get_or xs n d ∷ []), next, so_far) refl
