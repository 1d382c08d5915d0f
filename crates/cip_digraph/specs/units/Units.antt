-- The stereogenic units that a molecule can have: centres by atom, then bonds, then axes, each by first and second end.
-- IUPAC 2013, P-91 and P-93; the order is own.
use Rattle.std.specs.Prelude.{ℕ, List, ◌++◌, map, filter, flat_map}
use Rattle.std.specs.List.{range_with_len}
use Rattle.cip_mol.specs.declared.site.Geometry.{Geometry}
use Rattle.cip_mol.specs.declared.site.Site.{Site}
use Rattle.cip_mol.specs.declared.site.Site.TheVariants.{Centre}
use Rattle.cip_mol.specs.declared.site.Unit as units
use Rattle.cip_digraph.specs.units.Allenes.{axis_sites}
use Rattle.cip_digraph.specs.units.Centres.{is_centre, centre_ligands}
use Rattle.cip_digraph.specs.units.DoubleBonds.{bond_sites}
use Rattle.cip_digraph.specs.graph.Graph.{Graph}

abbrev pub centre_site : Graph → ℕ → Site
centre_site graph vertex = Centre vertex (centre_ligands graph vertex)

unfoldable pub sites_of : Graph → List (List ℕ) → List Site
sites_of graph positions =
    let atoms = range_with_len 0 graph.drawn in
    map (centre_site graph) (filter (is_centre graph) atoms)
    ++ flat_map (bond_sites graph positions) atoms
    ++ flat_map (axis_sites graph) atoms

-- the units with what a drawing shows of each
abbrev pub units_of : (Site → Geometry) → Graph → List (List ℕ) → List units.Unit
units_of geometry graph positions =
    map (λ site. record { site = site; geometry = geometry site }) (sites_of graph positions)
