-- What is found of the centre at an atom of a drawing. Own.
use Rattle.std.specs.Prelude.{ℕ, ◌==◌, Bool, false}
use Rattle.cip_rank.specs.declared.rules.Rules.{Rules}
use Rattle.cip_mol.specs.Drawing.{Drawing}
use Rattle.cip_mol.specs.Geometry.{geometry_of}
use Rattle.cip_mol.specs.declared.labels.outcome.Outcome.{Outcome}
use Rattle.cip_mol.specs.declared.site.Geometry.{Geometry}
use Rattle.cip_mol.specs.declared.site.Site.{Site}
use Rattle.cip_mol.specs.declared.site.Site.TheVariants.{Centre, Bond, Axis}
use Rattle.cip_mol.specs.declared.site.Unit as units
use Rattle.cip_digraph.specs.graph.DrawnGraph.{graph_of}
use Rattle.cip_digraph.specs.outcome.Outcomes.{cost, outcome_of}
use Rattle.cip_digraph.specs.rings.Positions.{positions_of}
use Rattle.cip_digraph.specs.units.Centres.{centre_ligands}
use Rattle.cip_digraph.specs.units.Ends.{end_at}
use Rattle.cip_digraph.specs.units.Units.{centre_site}
use Rattle.cip_digraph.specs.units.DrawnUnits.{units_in}

-- the nodes that are looked at from it
abbrev pub cost_at : Rules → Drawing → ℕ → ℕ
cost_at rules drawing atom =
    cost rules (graph_of drawing) (positions_of (graph_of drawing)) (units_in drawing)
    (end_at atom (centre_ligands (graph_of drawing) atom))

-- with this geometry, whatever the drawing shows of it
abbrev pub outcome_as : Rules → ℕ → Drawing → ℕ → Geometry → Outcome
outcome_as rules bound drawing atom geometry =
    outcome_of rules (graph_of drawing) (positions_of (graph_of drawing)) (units_in drawing) bound
    (record { site = centre_site (graph_of drawing) atom; geometry = geometry })

abbrev pub shown_at : Drawing → ℕ → Geometry
shown_at drawing atom = geometry_of drawing (centre_site (graph_of drawing) atom)

-- the unit of the centre at an atom
abbrev pub centre_unit : Drawing → ℕ → units.Unit
centre_unit drawing atom =
    record { site = centre_site (graph_of drawing) atom; geometry = shown_at drawing atom }

abbrev pub found_at : Rules → ℕ → Drawing → ℕ → Outcome
found_at rules bound drawing atom = outcome_as rules bound drawing atom (shown_at drawing atom)

abbrev pub is_centre_site : ℕ → Site → Bool
is_centre_site atom (Centre at ligands) = at == atom
is_centre_site atom (Bond a b first second) = false
is_centre_site atom (Axis a middle b first second) = false

abbrev pub is_centre_at : ℕ → units.Unit → Bool
is_centre_at atom unit = is_centre_site atom unit.site
