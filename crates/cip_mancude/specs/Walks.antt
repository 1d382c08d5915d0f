-- Steps over a single bond and the double bond after it, whatever was met before. Own.
use Rattle.std.specs.Prelude.{ℕ, cond, ◌&&◌, ◌==◌, List, [], ◌∷◌, filter, flat_map, map}
use Rattle.cip_digraph.specs.rings.Alternating.{is_alternating, partner, singles}
use Rattle.cip_digraph.specs.graph.Graph.{Graph, other_end}
use Rattle.cip_digraph.specs.declared.drawing.graph.Edge.{Edge}

abbrev pub onward_of : Graph → ℕ → List ℕ
onward_of graph next =
    cond (is_alternating graph next && is_alternating graph (partner graph next)) (partner graph next ∷ []) []

abbrev pub onward : Graph → ℕ → List ℕ
onward graph at = flat_map (onward_of graph) (singles graph at)

abbrev pub onward_along : Graph → ℕ → List Edge → List ℕ
onward_along graph at edges = flat_map (onward_of graph) (map (other_end at) (filter (λ edge. edge.order == 1) edges))
