-- What hangs below the real node at the end of a path, by that path. Own.
use Rattle.std.specs.Prelude.{ℕ, ◌-◌, ◌==◌, ◌&&◌, Bool, cond, List, [], ◌∷◌, ◌++◌, drop, replicate, slice_index}
use Rattle.cip_digraph.specs.declared.drawing.graph.Edge.{Edge}
use Rattle.cip_digraph.specs.declared.nodes.NodeKind.TheVariants.{Closure, Multiple, Delocalised}
use Rattle.cip_digraph.specs.digraph.Digraph.{Node, duplicate, begins_with}
use Rattle.cip_digraph.specs.digraph.View.{real_at}
use Rattle.cip_digraph.specs.graph.Graph.{other_end}
use Rattle.cip_digraph.specs.rings.Alternating.{is_in}
use Rattle.cip_digraph.specs.rings.Positions.{is_delocalised}

abbrev pub neighbour_below : List ℕ → ℕ → List Node
neighbour_below path other =
    cond (begins_with other (drop 1 path)) []
    (cond (is_in other path) (duplicate Closure other path ∷ []) (real_at (other ∷ path) ∷ []))

abbrev pub is_shifted : List (List ℕ) → ℕ → Edge → Bool
is_shifted positions vertex edge = (edge.order == 2) && is_delocalised positions vertex

abbrev pub duplicate_for : List (List ℕ) → List ℕ → Edge → Node
duplicate_for positions path edge =
    let vertex = slice_index path 0 in
    cond (is_shifted positions vertex edge) (duplicate Delocalised vertex path)
    (duplicate Multiple (other_end vertex edge) path)

-- how many duplicates an edge gives at each of its ends
abbrev pub copies : Edge → ℕ
copies edge = cond edge.counted (edge.order - 1) 0

abbrev pub edge_below : List (List ℕ) → List ℕ → Edge → List Node
edge_below positions path edge =
    neighbour_below path (other_end (slice_index path 0) edge)
    ++ replicate (copies edge) (duplicate_for positions path edge)
