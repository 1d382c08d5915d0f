-- The place of two columns in a text of columns, as symbols are searched. Own.
use Rattle.std.specs.Prelude.{ℕ, List, [], ◌∷◌, ◌+◌, ◌==◌, ◌&&◌, Some, None, if◌then◌else◌}
use Rattle.std.specs.declared.option.Option.{Option}

-- counted from this place on
abbrev pub place_in : ℕ → ℕ → ℕ → List ℕ → Option ℕ
place_in first second place [] = None
place_in first second place (a ∷ []) = None
place_in first second place (a ∷ b ∷ columns) =
    if (first == a) && (second == b) then Some place else place_in first second (place + 1) columns
