-- Columns of a line that are written anew. CTfile Formats: columns count from 1, and numbers are right-aligned; that a
-- line is filled with spaces is own.
use Rattle.std.specs.Prelude.{◌≡◌, ◌≤◌, ◌<◌, ℕ, zero, suc, List, [], ◌∷◌, ◌++◌, ◌+◌, ◌-◌, Bool, true, nat_lt, drop, length}
use Rattle.std.specs.List.{list_all}
use Rattle.cip_text.specs.Writing.{right}

-- the first columns of a line, n of them, with a space for each that it lacks
abbrev pub filled : ℕ → List ℕ → List ℕ
filled zero line = []
filled (suc columns) [] = 32 ∷ filled columns []
filled (suc columns) (b ∷ bs) = b ∷ filled columns bs

-- a line in which a text is in the columns from the first to the last, right, and all else is as before
unfoldable pub with_columns : ℕ → ℕ → List ℕ → List ℕ → List ℕ
with_columns first last text line =
    filled (first - 1) line ++ (right (last + 1 - first) text ++ drop last line)

-- neither a space nor a control character
abbrev pub is_printed : List ℕ → Bool
is_printed text = list_all (λ b. nat_lt 32 b) text

-- a text that can be written into these columns
pub record Fits (first last : ℕ) (text : List ℕ) : Type 0 where
  pub begins : 1 ≤ first
  pub some : 0 < length text
  pub few : length text + first ≤ last + 1
  pub printed : is_printed text ≡ true
