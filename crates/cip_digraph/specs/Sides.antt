-- Which of two nodes or ligands precedes, by number. Own.
use Rattle.std.specs.Prelude.{ℕ, Bool, true, false, List, [], ◌∷◌, ◌++◌, map, None, Some}
use Rattle.std.specs.Ordering.{is_lt}
use Rattle.std.specs.declared.option.Option.{Option}
use Rattle.std.specs.declared.cmp.Ordering.{Ordering}
use Rattle.std.specs.declared.cmp.Ordering.TheVariants.{Less, Equal, Greater}
use Rattle.cip_digraph.specs.declared.decisions.decision.Decision.{Decision}

abbrev pub found_side : Option Decision → Option Ordering
found_side None = None
found_side (Some decision) = Some decision.side

-- of two nodes, with R or with S first in the last rule
abbrev pub Sides : Type 0
Sides = Bool → ℕ → ℕ → Option Ordering

-- of two ligands, a lone pair below all nodes
abbrev pub number_side : (ℕ → ℕ → Option Ordering) → Option ℕ → Option ℕ → Option Ordering
number_side sides None None = None
number_side sides None (Some b) = Some Less
number_side sides (Some a) None = Some Greater
number_side sides (Some a) (Some b) = sides a b

-- what is between each two elements, the first one with each later one, and so on
abbrev pub each_two : {X Y : Type 0} → (X → X → Y) → List X → List Y
each_two between [] = []
each_two between (x ∷ xs) = map (between x) xs ++ each_two between xs

abbrev pub pair_sides : (ℕ → ℕ → Option Ordering) → List (Option ℕ) → List (Option Ordering)
pair_sides sides ligands = each_two (number_side sides) ligands

abbrev pub is_tied : Option Ordering → Bool
is_tied None = true
is_tied (Some side) = false

abbrev pub ordering_of : Option Ordering → Ordering
ordering_of None = Equal
ordering_of (Some side) = side

-- the second one of two precedes
abbrev pub is_below : Option Ordering → Bool
is_below side = is_lt (ordering_of side)
