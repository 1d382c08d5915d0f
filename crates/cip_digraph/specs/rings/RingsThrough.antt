-- Rings through a bond as such, apart from how small ones are searched for. Own.
use Rattle.std.specs.Prelude.{◌≡◌, ◌≢◌, ◌≤◌, ℕ, true, List, [], ◌∷◌, length}
use Rattle.std.specs.List.{AllPairs}
use Rattle.cip_digraph.specs.rings.Alternating.{is_in}
use Rattle.cip_digraph.specs.graph.Graph.{Graph, neighbours}

-- from each vertex to a neighbour of it
abbrev pub Walks : Graph → ℕ → List ℕ → ℕ → Type 0
Walks graph at [] target = at ≡ target
Walks graph at (next ∷ others) target = (is_in next (neighbours graph at) ≡ true) × Walks graph next others target

-- the way round from the one end of a bond to the other, over at least one vertex between them
pub record IsRingThrough (graph : Graph) (a b : ℕ) (others : List ℕ) : Type 0 where
  pub way : Walks graph a others b
  pub different : AllPairs ◌≢◌ (a ∷ others)
  pub some : 2 ≤ length others
