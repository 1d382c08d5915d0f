-- Numbers that rise, and trees whose parents don't fall: how many places a further sphere takes at most. Own.
use Rattle.std.specs.Prelude.{◌<◌, ◌≤◌, ℕ, List, [], ◌∷◌, length, slice_index}
use Rattle.std.specs.List.{AllByRecursion, flat_map, range_with_len}

-- each number is above those before it
abbrev pub Rises : List ℕ → Type 0
Rises [] = Unit {0}
Rises (n ∷ ns) = AllByRecursion (λ m. n < m) ns × Rises ns

-- parents in the order of their children
pub record IsAscending (parents : List ℕ) : Type 0 where
  pub each : (a b : ℕ) → a ≤ b → b < length parents → slice_index parents a ≤ slice_index parents b

-- the children that are given for the nodes at n places, from a place on
abbrev pub kids_list : (ℕ → List ℕ) → List ℕ → ℕ → ℕ → List ℕ
kids_list kids_at nodes place more = flat_map (λ p. kids_at (slice_index nodes p)) (range_with_len place more)
