-- What is found of a centre rests on what is shown of the other units, not on what is shown of itself, but for its
-- sense: so not on the marks that have their narrow end there. Own.
use Rattle.std.specs.Prelude.{◌≡◌, ◌↔◌, slice_get, ℕ, List, length, false, true, Ok, Some}
use Rattle.cip_num.specs.Around.{has_coincident}
use Rattle.cip_rank.specs.declared.rules.Rules.{Rules}
use Rattle.cip_mol.specs.Bonds as bonds
use Rattle.cip_mol.specs.Drawing.{Drawing}
use Rattle.cip_mol.specs.Points.{is_spatial}
use Rattle.cip_mol.specs.declared.labels.descriptor.Sense.{Sense}
use Rattle.cip_mol.specs.declared.graph.molecule.Bond.{Bond}
use Rattle.cip_mol.specs.declared.graph.molecule.Mark.TheVariants.{Up, Down}
use Rattle.cip_mol.specs.declared.site.Geometry.{Geometry}
use Rattle.cip_mol.specs.declared.site.Geometry.TheVariants.{Known}
use Rattle.cip_mol.specs.declared.site.Ligand.{Ligand}
use Rattle.cip_mol.specs.declared.site.Site.TheVariants.{Centre}
use Rattle.cip_mol.specs.declared.site.Unit as units
use Rattle.cip_digraph.specs.graph.DrawnGraph.{graph_of}
use Rattle.cip_digraph.specs.graph.Graph.{Graph}
use Rattle.cip_digraph.specs.outcome.Outcomes.{cost, outcome_of}
use Rattle.cip_digraph.specs.units.Centres.{is_centre}
use Rattle.cip_digraph.specs.units.Descriptors.{opposite}
use Rattle.cip_digraph.specs.units.Ends.{end_at}
use Rattle.cip_digraph.specs.units.DrawnUnits.{units_in}
use Rattle.cip_edit.specs.FoundCentres.{centre_unit, cost_at, outcome_as, shown_at, found_at}
use Rattle.cip_edit.specs.Remarked.{AreRemarked}
use Rattle.cip_edit.specs.Marking.{with_mark, directions, chosen, has_centre}
use Rattle.cip_edit.specs.SetLetters.{mark_for_letter, IsGiven}
use Rattle.cip_mol.specs.declared.labels.centre_letter.CentreLetter.{CentreLetter}
use Rattle.cip_edit.specs.declared.request.MarkedCentre.{MarkedCentre}
use Rattle.cip_edit.specs.TurnedLetters.{turned_outcome}
use Rattle.cip_edit.specs.UnitsBeside.{AreSameBeside}

-- order, rule, sphere and cost, and whether it ties
pub record StandsAlone (rules : Rules) (graph : Graph) (positions : List (List ℕ)) (at : ℕ)
    (all others : List units.Unit) : Type 0 where
  pub costs : (ligands : List Ligand) →
      cost rules graph positions others (end_at at ligands) ≡ cost rules graph positions all (end_at at ligands)
  pub outcomes : (bound : ℕ) (ligands : List Ligand) (geometry : Geometry) →
      outcome_of rules graph positions others bound (record { site = Centre at ligands; geometry = geometry })
      ≡ outcome_of rules graph positions all bound (record { site = Centre at ligands; geometry = geometry })

abbrev pub CentresStandAlone : Type 0
CentresStandAlone =
    (rules : Rules) (graph : Graph) (positions : List (List ℕ)) (at : ℕ) (all others : List units.Unit) →
    AreSameBeside at all others → StandsAlone rules graph positions at all others

-- a drawing with other bonds
abbrev pub with_bonds : Drawing → List Bond → Drawing
with_bonds drawing others = record { atoms = drawing.atoms; bonds = others }

pub record KeepsRanks (drawing : Drawing) (others : List Bond) (atom : ℕ) : Type 0 where
  pub graph : graph_of (with_bonds drawing others) ≡ graph_of drawing
  pub costs : (rules : Rules) → cost_at rules (with_bonds drawing others) atom ≡ cost_at rules drawing atom
  pub outcomes : (rules : Rules) (bound : ℕ) (geometry : Geometry) →
      outcome_as rules bound (with_bonds drawing others) atom geometry ≡ outcome_as rules bound drawing atom geometry

-- with other marks that have their narrow end at a centre
abbrev pub MarksKeepRanks : Type 0
MarksKeepRanks =
    (drawing : Drawing) (others : List Bond) (atom : ℕ) → is_centre (graph_of drawing) atom ≡ true →
    AreRemarked atom drawing.bonds others → KeepsRanks drawing others atom

-- the other sense, the other letter of the same kind
abbrev pub SensesTurnLetters : Type 0
SensesTurnLetters =
    (rules : Rules) (bound : ℕ) (drawing : Drawing) (atom : ℕ) (sense : Sense) →
    outcome_as rules bound drawing atom (Known (opposite sense))
    ≡ turned_outcome (outcome_as rules bound drawing atom (Known sense))

-- with the answered mark the centre has the asked letter
abbrev pub MarksGiveLetters : Type 0
MarksGiveLetters =
    (rules : Rules) (nodes : ℕ) (drawing : Drawing) (atom : ℕ) (requested : CentreLetter) (marked : MarkedCentre) →
    bonds.IsSound (length drawing.atoms) drawing.bonds → mark_for_letter rules nodes drawing atom requested ≡ Ok marked →
    IsGiven rules nodes drawing atom requested marked

-- where no ligands coincide in the plane, an up mark at the first eligible ligand shows a sense, and a down mark the
-- other one; so the other letter of the same kind is found
pub record ShowSenses (drawing : Drawing) (atom neighbour : ℕ) : Type 0 where
  pub sense : Sense
  pub up : shown_at (with_mark drawing atom neighbour Up) atom ≡ Known sense
  pub down : shown_at (with_mark drawing atom neighbour Down) atom ≡ Known (opposite sense)
  pub letters : (rules : Rules) (bound : ℕ) →
      found_at rules bound (with_mark drawing atom neighbour Down) atom
      ≡ turned_outcome (found_at rules bound (with_mark drawing atom neighbour Up) atom)

abbrev pub EligibleMarksShowSenses : Type 0
EligibleMarksShowSenses =
    (drawing : Drawing) (atom neighbour : ℕ) → bonds.IsSound (length drawing.atoms) drawing.bonds →
    has_centre drawing atom ≡ true → is_spatial drawing.atoms ≡ false → has_coincident (directions drawing atom) ≡ false →
    chosen drawing atom ≡ Some neighbour → ShowSenses drawing atom neighbour

-- a centre is at an atom exactly where its unit is one of the drawing's
abbrev pub CentresAreUnits : Type 0
CentresAreUnits =
    (drawing : Drawing) (atom : ℕ) →
    (has_centre drawing atom ≡ true)
    ↔ ((place : ℕ) × (slice_get (units_in drawing) place ≡ Some (centre_unit drawing atom)))
