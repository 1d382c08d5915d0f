-- How much room the values of an item take, each with two bytes for its line end. Own.
use Rattle.std.specs.Prelude.{ℕ, List, [], ◌∷◌, ◌+◌, length}

abbrev pub room_of : List (List ℕ) → ℕ
room_of [] = 0
room_of (value ∷ values) = length value + 2 + room_of values
