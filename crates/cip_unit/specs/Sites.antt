-- The sites of units, one atom or bond at a time. Own.
use Rattle.std.specs.Prelude.{◌≡◌, ◌<◌, ℕ, Bool, cond, ◌==◌, ◌&&◌, ◌||◌, List, [], ◌∷◌, ◌++◌, map, filter, flat_map, is_some, length, nat_lt, not, All}
use Rattle.std.specs.List.{list_any, range_with_len}
use Rattle.cip_elem.specs.Electrons.{outer_of}
use Rattle.cip_mol.specs.Drawing.{Drawing}
use Rattle.cip_mol.specs.Geometry.{geometry_of}
use Rattle.cip_mol.specs.declared.site.Ligand.{Ligand}
use Rattle.cip_mol.specs.declared.site.Ligand.TheVariants.{LonePair}
use Rattle.cip_mol.specs.declared.site.Site.{Site}
use Rattle.cip_mol.specs.declared.site.Unit as units
use Rattle.cip_digraph.specs.units.Allenes.{axis_site, axis_sites, doubles, is_allene_middle, is_axis_unit}
use Rattle.cip_digraph.specs.units.Centres.{is_centre, is_quadriligant}
use Rattle.cip_digraph.specs.units.DoubleBonds.{bond_site, bond_sites, is_bond_end, is_bond_unit, is_double_end, outer_neighbours}
use Rattle.cip_digraph.specs.graph.Graph.{Graph, edges_at, other_end, vertex_at}
use Rattle.cip_digraph.specs.rings.Positions.{is_delocalised}
use Rattle.cip_digraph.specs.units.Units.{centre_site}
use Rattle.cip_digraph.specs.declared.drawing.graph.Edge.{Edge}
use Rattle.cip_digraph.specs.declared.drawing.graph.Vertex.{Vertex}

-- the units of some sites, with what a drawing shows of each
abbrev pub units_at : Drawing → List Site → List units.Unit
units_at drawing sites = map (λ site. record { site = site; geometry = geometry_of drawing site }) sites

-- by element, charge, lone pair and number of bonds
abbrev pub has_centre_bonds : Vertex → ℕ → Bool
has_centre_bonds vertex edges =
    ((edges == 4) && is_quadriligant vertex.z vertex.charge)
    || ((edges == 3) && is_some (outer_of vertex.z) && vertex.lone)

abbrev pub fourth : ℕ → List Ligand
fourth count = cond (count == 3) (LonePair ∷ []) []

abbrev pub centre_sites : Graph → ℕ → List Site
centre_sites graph atom = cond (is_centre graph atom) (centre_site graph atom ∷ []) []

abbrev pub has_drawn_outside : Graph → List ℕ → ℕ → Bool
has_drawn_outside graph unit atom = list_any (λ other. nat_lt other graph.drawn) (outer_neighbours graph unit atom)

-- an atom can be the first end of a bond unit, by its positions, its element and its number of bonds
abbrev pub can_begin : Graph → List (List ℕ) → ℕ → Bool
can_begin graph positions a =
    not (is_delocalised positions a)
    && is_double_end (vertex_at graph a).z (vertex_at graph a).charge (length (edges_at graph a))

-- a bond unit but for small rings
abbrev pub can_be_bond_unit : Graph → List (List ℕ) → ℕ → Edge → Bool
can_be_bond_unit graph positions a edge =
    let b = other_end a edge in
    edge.counted && (edge.order == 2) && nat_lt a b && is_bond_end graph (a ∷ b ∷ []) a
    && is_bond_end graph (a ∷ b ∷ []) b
    && not (is_delocalised positions a)

abbrev pub one_bond_site : Graph → List (List ℕ) → ℕ → Edge → List Site
one_bond_site graph positions a edge = cond (is_bond_unit graph positions a edge) (bond_site graph a edge ∷ []) []

abbrev pub axes_through : Graph → ℕ → ℕ → List Site
axes_through graph a middle =
    map (axis_site graph a middle) (filter (is_axis_unit graph a middle) (doubles graph middle))

abbrev pub one_axis_site : Graph → ℕ → ℕ → ℕ → List Site
one_axis_site graph a middle b = cond (is_axis_unit graph a middle b) (axis_site graph a middle b ∷ []) []

abbrev pub has_double : Graph → Bool
has_double graph = list_any (λ edge. edge.order == 2) graph.edges

-- one of the first atoms can be the middle one of an allene
abbrev pub has_allene : Graph → ℕ → Bool
has_allene graph atoms = list_any (is_allene_middle graph) (range_with_len 0 atoms)

-- further units: the bonds, or the axes, of the first atoms
abbrev pub with_bonds : Drawing → Graph → List (List ℕ) → ℕ → List units.Unit → List units.Unit
with_bonds drawing graph positions atoms before =
    before ++ units_at drawing (flat_map (bond_sites graph positions) (range_with_len 0 atoms))

abbrev pub with_axes : Drawing → Graph → ℕ → List units.Unit → List units.Unit
with_axes drawing graph atoms before =
    before ++ units_at drawing (flat_map (axis_sites graph) (range_with_len 0 atoms))

-- double bonds join drawn atoms
pub record LeadsToAtom (drawn : ℕ) (edge : Edge) : Type 0 where
  pub a : edge.order ≡ 2 → edge.a < drawn
  pub b : edge.order ≡ 2 → edge.b < drawn

pub record LeadsToAtoms (graph : Graph) : Type 0 where
  pub each : All (LeadsToAtom graph.drawn) graph.edges
