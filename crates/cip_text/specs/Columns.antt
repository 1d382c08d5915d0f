-- Fields by columns. CTfile Formats: columns count from 1, and a field is cut to what the line has.
use Rattle.std.specs.Prelude.{ℕ, List, [], ◌∷◌, ◌+◌, ◌-◌, ◌==◌, take, drop, reverse, if◌then◌else◌}

abbrev pub without_spaces_before : List ℕ → List ℕ
without_spaces_before [] = []
without_spaces_before (b ∷ bs) = if b == 32 then without_spaces_before bs else b ∷ bs

abbrev pub trim_end_spaces : List ℕ → List ℕ
trim_end_spaces bs = reverse (without_spaces_before (reverse bs))

-- what is in the columns from the first to the last, without the spaces around it
abbrev pub field : ℕ → ℕ → List ℕ → List ℕ
field first last line = trim_end_spaces (without_spaces_before (take (last + 1 - first) (drop (first - 1) line)))
