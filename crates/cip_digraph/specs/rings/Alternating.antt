-- Alternating atoms and rings: by turns a double and a single bond, as in mancude ring systems. IUPAC 2013,
-- P-92.1.4; which atoms alternate, and that a ring has at most 24 of them, is own.
use Rattle.std.specs.Prelude.{ℕ, zero, suc, Bool, false, not, ◌==◌, ◌&&◌, ◌||◌, List, [], ◌∷◌, map, filter, length, nat_le, if◌then◌else◌}
use Rattle.std.specs.List.{list_any}
use Rattle.cip_digraph.specs.declared.drawing.graph.Edge.{Edge}
use Rattle.cip_digraph.specs.graph.Graph.{Graph, edges_at, other_end}

abbrev pub is_in : ℕ → List ℕ → Bool
is_in vertex vertices = list_any (λ other. other == vertex) vertices

abbrev pub counted_at : Graph → ℕ → List Edge
counted_at graph vertex = filter (λ edge. edge.counted) (edges_at graph vertex)

abbrev pub is_one_double : List Edge → Bool
is_one_double [] = false
is_one_double (edge ∷ []) = edge.order == 2
is_one_double (edge ∷ next ∷ edges) = false

-- it has one counted multiple bond, which is double, and at most three bonds
abbrev pub is_alternating : Graph → ℕ → Bool
is_alternating graph vertex = is_one_double (counted_at graph vertex) && nat_le (length (edges_at graph vertex)) 3

-- the other end of a double bond
abbrev pub partner_by : ℕ → List Edge → ℕ
partner_by vertex [] = vertex
partner_by vertex (edge ∷ edges) = other_end vertex edge

abbrev pub partner : Graph → ℕ → ℕ
partner graph vertex = partner_by vertex (counted_at graph vertex)

-- the neighbours over single bonds
abbrev pub singles : Graph → ℕ → List ℕ
singles graph vertex = map (other_end vertex) (filter (λ edge. edge.order == 1) (edges_at graph vertex))

-- an alternating atom that has an alternating partner, neither of them on a path
abbrev pub goes_on : Graph → List ℕ → ℕ → Bool
goes_on graph path vertex =
    let other = partner graph vertex in
    is_alternating graph vertex && is_alternating graph other && not (is_in vertex path) && not (is_in other path)

-- From an atom, by turns over a single bond and over the double bond after it, a vertex is reached: over n
-- double bonds at most, and without meeting any atom twice.
abbrev pub reaches : Graph → ℕ → ℕ → List ℕ → ℕ → Bool
reaches graph target zero path at = at == target
reaches graph target (suc more) path at =
    (at == target)
    || list_any
    (λ next. let other = partner graph next in
    if goes_on graph path next then reaches graph target more (other ∷ next ∷ path) other else false)
    (singles graph at)

-- The single bond between two alternating atoms lies in an alternating ring: from the double bond of the one, eleven
-- further double bonds at most lead to the other, which isn't the other end of that bond.
abbrev pub closes_ring : Graph → ℕ → ℕ → Bool
closes_ring graph vertex other =
    let next = partner graph vertex in
    is_alternating graph vertex && is_alternating graph next && is_alternating graph other
    && is_in other (singles graph vertex) && not (other == next) && reaches graph other 11 (next ∷ vertex ∷ []) next
