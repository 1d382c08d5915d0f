-- What a graph has to be for the laws of its digraphs: edges join two different vertices of it, and no two edges the
-- same ones. Own.
use Rattle.std.specs.Prelude.{◌≡◌, ◌≢◌, ◌<◌, ◌≤◌, ◌==◌, ◌&&◌, ◌||◌, ℕ, Bool, false, All, length}
use Rattle.std.specs.List.{AllPairs}
use Rattle.cip_digraph.specs.declared.drawing.graph.Edge.{Edge}
use Rattle.cip_digraph.specs.graph.Graph.{Graph}

pub record JoinsBelow (count : ℕ) (edge : Edge) : Type 0 where
  pub a : edge.a < count
  pub b : edge.b < count
  pub differ : edge.a ≢ edge.b

-- in either direction
abbrev pub join_same : Edge → Edge → Bool
join_same one other = ((one.a == other.a) && (one.b == other.b)) || ((one.a == other.b) && (one.b == other.a))

pub record IsSound (graph : Graph) : Type 0 where
  pub drawn : graph.drawn ≤ length graph.vertices
  pub edges : All (JoinsBelow (length graph.vertices)) graph.edges
  pub once : AllPairs (λ one other. join_same one other ≡ false) graph.edges
