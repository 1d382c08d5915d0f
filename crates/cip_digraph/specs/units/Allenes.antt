-- Axis units: allenes that can have a descriptor, with the ligands of their ends. IUPAC 2013, P-93; which ones is own.
-- An allene whose ends are joined is none: each end has two ligands outside.
use Rattle.std.specs.Prelude.{ℕ, ◌==◌, ◌&&◌, Bool, List, [], ◌∷◌, map, filter, flat_map, length, nat_lt}
use Rattle.cip_mol.specs.declared.site.Site.{Site}
use Rattle.cip_mol.specs.declared.site.Site.TheVariants.{Axis}
use Rattle.cip_digraph.specs.graph.Graph.{Graph, vertex_at, edges_at, other_end}
use Rattle.cip_digraph.specs.units.DoubleBonds.{outer_neighbours, has_end_bonds, end_ligands}

-- the neighbours over double bonds
abbrev pub doubles : Graph → ℕ → List ℕ
doubles graph vertex = map (other_end vertex) (filter (λ edge. edge.order == 2) (edges_at graph vertex))

abbrev pub is_allene_middle : Graph → ℕ → Bool
is_allene_middle graph vertex =
    ((vertex_at graph vertex).z == 6) && (length (edges_at graph vertex) == 2) && (length (doubles graph vertex) == 2)

abbrev pub is_axis_end : Graph → List ℕ → ℕ → Bool
is_axis_end graph unit vertex =
    ((vertex_at graph vertex).z == 6) && (length (edges_at graph vertex) == 3) && has_end_bonds graph unit vertex
    && (length (outer_neighbours graph unit vertex) == 2)

-- by the first end, which has the lower number
abbrev pub is_axis_unit : Graph → ℕ → ℕ → ℕ → Bool
is_axis_unit graph a middle b =
    let unit = a ∷ middle ∷ b ∷ [] in
    nat_lt a b && is_allene_middle graph middle && is_axis_end graph unit a && is_axis_end graph unit b

abbrev pub axis_site : Graph → ℕ → ℕ → ℕ → Site
axis_site graph a middle b =
    let unit = a ∷ middle ∷ b ∷ [] in
    Axis a middle b (end_ligands graph unit a) (end_ligands graph unit b)

-- the axis units of a first end, by the second one
abbrev pub axis_sites : Graph → ℕ → List Site
axis_sites graph a =
    flat_map (λ middle. map (axis_site graph a middle) (filter (is_axis_unit graph a middle) (doubles graph middle)))
    (doubles graph a)
