-- Where the double bond of an alternating atom can be, and the mean atomic number of its other end. IUPAC 2013,
-- P-92.1.4: a duplicate of an atom in a mancude ring system has the mean of the atomic numbers it would have in all
-- forms. The positions are those of alternating rings; this is own.
use Rattle.std.specs.Prelude.{ℕ, Bool, ◌*◌, ◌/◌, ◌==◌, ◌||◌, List, [], map, filter, length, sum, nat_lt, slice_index_or, if◌then◌else◌}
use Rattle.std.specs.List.{range_with_len}
use Rattle.cip_digraph.specs.graph.Graph.{Graph, vertex_at, neighbours}
use Rattle.cip_digraph.specs.rings.Alternating.{is_alternating, partner, closes_ring}

-- the other end of the double bond, and each neighbour over a single bond of an alternating ring, ascending
abbrev pub positions_at : Graph → ℕ → List ℕ
positions_at graph vertex =
    let is_position : ℕ → Bool = λ other. (other == partner graph vertex) || closes_ring graph vertex other in
    if is_alternating graph vertex then filter is_position (neighbours graph vertex) else []

-- of each vertex
unfoldable pub positions_of : Graph → List (List ℕ)
positions_of graph = map (positions_at graph) (range_with_len 0 (length graph.vertices))

abbrev pub listed_positions : List (List ℕ) → ℕ → List ℕ
listed_positions positions vertex = slice_index_or positions vertex []

-- a double bond in an alternating ring has a second position
abbrev pub is_delocalised : List (List ℕ) → ℕ → Bool
is_delocalised positions vertex = nat_lt 1 (length (listed_positions positions vertex))

-- six times the mean of the atomic numbers at one, two or three positions, a whole number
abbrev pub mean_key : Graph → List (List ℕ) → ℕ → ℕ
mean_key graph positions vertex =
    let others = listed_positions positions vertex in
    6 * sum (map (λ other. (vertex_at graph other).z) others) / length others
