-- Bonds in small rings. IUPAC 2013, P-93.5: a double bond in a ring of fewer than eight atoms has no descriptor.
use Rattle.std.specs.Prelude.{ℕ, zero, suc, ◌==◌, ◌&&◌, ◌||◌, Bool, not, List, [], ◌∷◌, ◌++◌, filter, flat_map, if◌then◌else◌}
use Rattle.cip_digraph.specs.rings.Alternating.{is_in}
use Rattle.cip_digraph.specs.graph.Graph.{Graph, neighbours}

-- the neighbours of a vertex by other bonds than the one between a and b
abbrev pub neighbours_aside : Graph → ℕ → ℕ → ℕ → List ℕ
neighbours_aside graph a b vertex =
    filter (λ other. not (((vertex == a) && (other == b)) || ((vertex == b) && (other == a)))) (neighbours graph vertex)

abbrev pub with_new : List ℕ → List ℕ → List ℕ
with_new vertices [] = vertices
with_new vertices (other ∷ others) =
    with_new (if is_in other vertices then vertices else vertices ++ other ∷ []) others

-- the vertices at most n steps from a, none of them along the bond between a and b
abbrev pub within_steps : Graph → ℕ → ℕ → ℕ → List ℕ
within_steps graph a b zero = a ∷ []
within_steps graph a b (suc steps) =
    let vertices = within_steps graph a b steps in
    with_new vertices (flat_map (neighbours_aside graph a b) vertices)

-- six steps aside from the one end to the other, and so a ring of seven atoms at most: a shortest way meets no vertex
-- twice
abbrev pub is_in_small_ring : Graph → ℕ → ℕ → Bool
is_in_small_ring graph a b = is_in b (within_steps graph a b 6)
