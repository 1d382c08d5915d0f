-- Spaces that are added one by one.
use Rattle.std.proofs.Common.{◌≡◌, ℕ, suc, ◌<◌, ◌+◌, ◌-◌, List, [], ◌∷◌, ◌++◌, replicate, sym, ap, ◌∙◌, append_assoc, arith}

-- a space more, and one less that is due
pub one_space : (text : List ℕ) (column width : ℕ) → column < width →
    (text ++ 32 ∷ []) ++ replicate (width - (column + 1)) 32 ≡ text ++ replicate (width - column) 32
one_space text column width within =
    let due : width - column ≡ suc (width - (column + 1)) = omega arith in
    append_assoc text (32 ∷ []) (replicate (width - (column + 1)) 32)
    ∙ sym (ap (λ count. text ++ replicate count 32) due)
