-- Bond units: double bonds that can have a descriptor, with the ligands of their ends. IUPAC 2013, P-93.4; the list of
-- ends is own.
use Rattle.std.specs.Prelude.{ℕ, ℤ, pos, ◌==◌, ◌&&◌, ◌||◌, Bool, not, List, [], ◌∷◌, ◌++◌, map, filter, length, nat_lt, nat_le, if◌then◌else◌}
use Rattle.std.specs.List.{list_any}
use Rattle.std.specs.Ordering.{int_eq}
use Rattle.cip_mol.specs.declared.site.Ligand.{Ligand}
use Rattle.cip_mol.specs.declared.site.Ligand.TheVariants.{LonePair}
use Rattle.cip_mol.specs.declared.site.Ligand.TheVariants as ligands
use Rattle.cip_mol.specs.declared.site.Site.{Site}
use Rattle.cip_mol.specs.declared.site.Site.TheVariants.{Bond}
use Rattle.cip_digraph.specs.rings.Alternating.{is_in}
use Rattle.cip_digraph.specs.declared.drawing.graph.Edge.{Edge}
use Rattle.cip_digraph.specs.graph.Graph.{Graph, vertex_at, edges_at, neighbours, other_end}
use Rattle.cip_digraph.specs.rings.Positions.{is_delocalised}
use Rattle.cip_digraph.specs.rings.SmallRings.{is_in_small_ring}

-- carbon, silicon or germanium with three bonds, nitrogen with two, or with three and the charge +1
abbrev pub is_double_end : ℕ → ℤ → ℕ → Bool
is_double_end z charge edges =
    ((edges == 3) && ((z == 6) || (z == 14) || (z == 32) || ((z == 7) && int_eq charge (pos 1))))
    || ((edges == 2) && (z == 7) && int_eq charge (pos 0))

abbrev pub multiples : Graph → ℕ → List Edge
multiples graph vertex = filter (λ edge. nat_le 2 edge.order) (edges_at graph vertex)

-- the neighbours of an end that aren't atoms of its unit
abbrev pub outer_neighbours : Graph → List ℕ → ℕ → List ℕ
outer_neighbours graph unit vertex = filter (λ other. not (is_in other unit)) (neighbours graph vertex)

-- one multiple bond, neglected ones counted too, and a drawn neighbour outside the unit
abbrev pub has_end_bonds : Graph → List ℕ → ℕ → Bool
has_end_bonds graph unit vertex =
    (length (multiples graph vertex) == 1)
    && list_any (λ other. nat_lt other graph.drawn) (outer_neighbours graph unit vertex)

abbrev pub is_bond_end : Graph → List ℕ → ℕ → Bool
is_bond_end graph unit vertex =
    is_double_end (vertex_at graph vertex).z (vertex_at graph vertex).charge (length (edges_at graph vertex))
    && has_end_bonds graph unit vertex

-- the neighbours outside the unit, ascending, then the lone pair of a nitrogen with two bonds
abbrev pub end_ligands : Graph → List ℕ → ℕ → List Ligand
end_ligands graph unit vertex =
    map ligands.Vertex (outer_neighbours graph unit vertex)
    ++ (if ((vertex_at graph vertex).z == 7) && (length (edges_at graph vertex) == 2) then LonePair ∷ [] else [])

-- by an edge at its first end, which has the lower number
abbrev pub is_bond_unit : Graph → List (List ℕ) → ℕ → Edge → Bool
is_bond_unit graph positions a edge =
    let b = other_end a edge in
    edge.counted && (edge.order == 2) && nat_lt a b && is_bond_end graph (a ∷ b ∷ []) a
    && is_bond_end graph (a ∷ b ∷ []) b
    && not (is_delocalised positions a) && not (is_in_small_ring graph a b)

abbrev pub bond_site : Graph → ℕ → Edge → Site
bond_site graph a edge =
    let b = other_end a edge in
    Bond a b (end_ligands graph (a ∷ b ∷ []) a) (end_ligands graph (a ∷ b ∷ []) b)

-- the bond units of a first end, by the second one
abbrev pub bond_sites : Graph → List (List ℕ) → ℕ → List Site
bond_sites graph positions a = map (bond_site graph a) (filter (is_bond_unit graph positions a) (edges_at graph a))
