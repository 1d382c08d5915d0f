-- Columns of a line that are copied one by one.
use Rattle.std.proofs.Common.{◌≡◌, ℕ, zero, suc, ◌<◌, ◌+◌, ◌-◌, List, [], ◌∷◌, ◌++◌, drop, get_or, refl, sym, ap, ◌∙◌, append_assoc, arith}
use Rattle.cip_edit.specs.Columns.{filled}

-- a column more

filled_more : (columns column : ℕ) (line : List ℕ)
    → filled (suc columns) (drop column line) ≡ get_or line column 32 ∷ filled columns (drop (column + 1) line)
filled_more columns zero [] = refl
filled_more columns zero (b ∷ bs) = refl
filled_more columns (suc column) [] =
    let next : suc column + 1 ≡ suc (column + 1) = omega arith in rw next refl
filled_more columns (suc column) (b ∷ bs) =
    let next : suc column + 1 ≡ suc (column + 1) = omega arith in rw next (filled_more columns column bs)

pub one_column : (text line : List ℕ) (column columns : ℕ) → column < columns →
    (text ++ get_or line column 32 ∷ []) ++ filled (columns - (column + 1)) (drop (column + 1) line)
    ≡ text ++ filled (columns - column) (drop column line)
one_column text line column columns within =
    let due : columns - column ≡ suc (columns - (column + 1)) = omega arith in
    append_assoc text (get_or line column 32 ∷ []) (filled (columns - (column + 1)) (drop (column + 1) line))
    ∙ ap (λ more. text ++ more)
    (sym (filled_more (columns - (column + 1)) column line) ∙ ap (λ n. filled n (drop column line)) (sym due))
