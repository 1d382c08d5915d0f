-- The path along which a node of the first two spheres came. Own.
use Rattle.std.specs.Prelude.{ℕ, List, [], ◌∷◌, None, Some}
use Rattle.std.specs.declared.option.Option.{Option}

-- the root came from nowhere, and a neighbour of it from the root
abbrev pub way_up : Option ℕ → List ℕ
way_up None = []
way_up (Some above) = above ∷ []
