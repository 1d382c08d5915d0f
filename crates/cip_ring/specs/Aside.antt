-- The neighbours along some edges at a vertex that aren't along a bond. Own.
use Rattle.std.specs.Prelude.{ℕ, List, not, ◌==◌, ◌&&◌, ◌||◌, filter, map}
use Rattle.cip_digraph.specs.graph.Graph.{other_end}
use Rattle.cip_digraph.specs.declared.drawing.graph.Edge.{Edge}

abbrev pub aside_along : ℕ → ℕ → ℕ → List Edge → List ℕ
aside_along a b vertex edges =
    filter (λ other. not (((vertex == a) && (other == b)) || ((vertex == b) && (other == a))))
    (map (other_end vertex) edges)
