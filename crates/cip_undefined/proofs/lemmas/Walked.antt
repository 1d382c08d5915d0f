-- One item more of a list that is walked, whose items each give some.
use Rattle.std.proofs.Common.{◌≡◌, ◌<◌, ◌+◌, ℕ, List, ◌++◌, append_assoc, ap, drop, get_or, length, sym, ◌∙◌}
use Rattle.std.specs.List.{flat_map}
use Rattle.std.proofs.lemmas.List.{at_drop_more}

pub given_more : {X Y : Type 0} (f : X → List Y) (xs : List X) (k : ℕ) (x : X) (before now total : List Y)
    → k < length xs → x ≡ get_or xs k x → now ≡ before ++ f x → before ++ flat_map f (drop k xs) ≡ total
    → now ++ flat_map f (drop (k + 1) xs) ≡ total
given_more f xs k x before now total within item more is =
    ap (λ ys. ys ++ flat_map f (drop (k + 1) xs)) more
    ∙ append_assoc before (f x) (flat_map f (drop (k + 1) xs))
    ∙ ap (λ y. before ++ (f y ++ flat_map f (drop (k + 1) xs))) item
    ∙ ap (λ ys. before ++ ys) (sym (at_drop_more (flat_map f) xs k x within))
    ∙ is
