-- A list changed element by element.
use Rattle.std.proofs.Common.{◌≡◌, ℕ, zero, suc, ◌+◌, ◌<◌, List, [], ◌∷◌, ◌++◌, map, take, drop, length, get_or, refl, sym, ap, ◌∙◌, arith}
use Rattle.std.specs.List.{slice_set}

mapped_here : {X : Type 0} (f : X → X) (xs : List X) (i : ℕ) (d : X) → i < length xs
    → slice_set (map f (take i xs) ++ drop i xs) i (f (get_or (map f (take i xs) ++ drop i xs) i d))
    ≡ map f (take (i + 1) xs) ++ drop (i + 1) xs
mapped_here f [] i d h = absurd (omega arith)
mapped_here f (x ∷ xs) zero d h = refl
mapped_here f (x ∷ xs) (suc i) d h =
    let next : suc i + 1 ≡ suc (i + 1) = omega arith in
    ap (λ ys. f x ∷ ys) (mapped_here f xs i d (omega arith))
    ∙ ap (λ k. map f (take k (x ∷ xs)) ++ drop k (x ∷ xs)) (sym next)

pub mapped_more : {X : Type 0} (f : X → X) (xs ys : List X) (i : ℕ) (d : X) → ys ≡ map f (take i xs) ++ drop i xs
    → i < length xs
    → slice_set ys i (f (get_or ys i d)) ≡ map f (take (i + 1) xs) ++ drop (i + 1) xs
mapped_more f xs ys i d e h = ap (λ zs. slice_set zs i (f (get_or zs i d))) e ∙ mapped_here f xs i d h
