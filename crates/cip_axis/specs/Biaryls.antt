-- Biaryl axes: single bonds in no ring between two atoms of alternating rings, about which hindered neighbours leave no
-- room to turn. IUPAC 2013, P-93; which ones, and what hinders, is own.
use Rattle.std.specs.Prelude.{ℕ, ◌+◌, ◌==◌, ◌&&◌, Bool, not, List, [], ◌∷◌, filter, length, nat_le, nat_lt}
use Rattle.std.specs.List.{list_any}
use Rattle.cip_digraph.specs.declared.drawing.graph.Edge.{Edge}
use Rattle.cip_digraph.specs.graph.Graph.{Graph, vertex_at, edges_at, neighbours, other_end}
use Rattle.cip_digraph.specs.rings.Positions.{is_delocalised}
use Rattle.cip_digraph.specs.units.DoubleBonds.{has_end_bonds, outer_neighbours}
use Rattle.cip_mancude.specs.SharedRings.{share_alternating_ring}
use Rattle.cip_ring.specs.AnyRings.{is_in_ring}

-- a neighbour of a neighbour of an end that is beside the axis: no hydrogen, not the end, and in no alternating
-- ring with the neighbour
abbrev pub stands_beside : Graph → ℕ → ℕ → ℕ → Bool
stands_beside graph end neighbour other =
    not ((vertex_at graph other).z == 1) && not (other == end) && not (share_alternating_ring graph neighbour other)

-- with three bonds, one of them to such an atom
abbrev pub is_hindered : Graph → ℕ → ℕ → Bool
is_hindered graph end neighbour =
    (length (edges_at graph neighbour) == 3)
    && list_any (stands_beside graph end neighbour) (neighbours graph neighbour)

abbrev pub hindered_at : Graph → List ℕ → ℕ → List ℕ
hindered_at graph unit end = filter (is_hindered graph end) (outer_neighbours graph unit end)

-- Its double bond has another position, and it has two neighbours beside the other end. That it has no other multiple
-- bond, and that a neighbour is drawn, follows.
abbrev pub is_biaryl_end : Graph → List (List ℕ) → List ℕ → ℕ → Bool
is_biaryl_end graph positions unit vertex =
    is_delocalised positions vertex && (length (edges_at graph vertex) == 3) && has_end_bonds graph unit vertex
    && (length (outer_neighbours graph unit vertex) == 2)

-- by an edge at its first end, which has the lower number: three of the four neighbours of both ends are hindered
unfoldable pub is_biaryl : Graph → List (List ℕ) → ℕ → Edge → Bool
is_biaryl graph positions a edge =
    let b = other_end a edge in
    let unit = a ∷ b ∷ [] in
    (edge.order == 1) && nat_lt a b && nat_lt b graph.drawn && is_biaryl_end graph positions unit a
    && is_biaryl_end graph positions unit b
    && nat_le 3 (length (hindered_at graph unit a) + length (hindered_at graph unit b))
    && not (is_in_ring graph a b)
