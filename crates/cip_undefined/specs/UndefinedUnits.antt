-- Undefined units: centres, double bonds and allenes of which a drawing shows no sense, for want of a mark or by a mark
-- that says either. Each is open where its ligands all differ, so that it has a label once its sense is drawn; otherwise
-- two of them tie, or a digraph is larger than the bound. Own; the ranking is IUPAC 2013, P-91 to P-93.
use Rattle.std.specs.Prelude.{ℕ, List, [], ◌∷◌, Bool, true, false, cond}
use Rattle.std.specs.List.{flat_map}
use Rattle.cip_mol.specs.declared.labels.descriptor.Sense.TheVariants.{Plus}
use Rattle.cip_mol.specs.declared.labels.outcome.Outcome.{Outcome}
use Rattle.cip_mol.specs.declared.labels.outcome.Outcome.TheVariants as outcomes
use Rattle.cip_mol.specs.declared.site.Cause.TheVariants.{Either, Coincident, Contradictory, Reentrant, NoMark}
use Rattle.cip_mol.specs.declared.site.Geometry.{Geometry}
use Rattle.cip_mol.specs.declared.site.Geometry.TheVariants.{Known, Unknown}
use Rattle.cip_mol.specs.declared.site.Site.{Site}
use Rattle.cip_mol.specs.declared.site.Unit as units
use Rattle.cip_label.specs.Settings.{LabelContext, known_in}
use Rattle.cip_print.specs.Naming.{name_of}
use Rattle.cip_undefined.specs.declared.unit.State.{State}
use Rattle.cip_undefined.specs.declared.unit.State.TheVariants.{Open, Dependent, Tie, Over}
use Rattle.cip_undefined.specs.declared.unit.UndefinedUnit.{UndefinedUnit}

-- a drawing whose directions coincide or contradict each other isn't an undefined one but a faulty one
abbrev pub is_undefined : Geometry → Bool
is_undefined (Known sense) = false
is_undefined (Unknown Either) = true
is_undefined (Unknown Coincident) = false
is_undefined (Unknown Contradictory) = false
is_undefined (Unknown Reentrant) = false
is_undefined (Unknown NoMark) = true

-- what would be found of a site if one sense were shown; with the other one its letter alone is another
abbrev pub open_outcome : LabelContext → ℕ → Site → Outcome
open_outcome setting nodes site = known_in setting nodes site Plus

-- how the ligands compare; of a known sense something else is found than want of geometry
abbrev pub state_of : Outcome → State
state_of (outcomes.Label label) = Open label.rule label.sphere label.order
state_of outcomes.Tie = Tie
state_of outcomes.Over = Over
state_of (outcomes.NoGeometry cause) = Over

abbrev pub found_unit : LabelContext → ℕ → Site → UndefinedUnit
found_unit setting nodes site = record {
  name = name_of site;
  site = site;
  drawn = setting.graph.drawn;
  state = state_of (open_outcome setting nodes site);
}

abbrev pub found_at : LabelContext → ℕ → units.Unit → List UndefinedUnit
found_at setting nodes unit = cond (is_undefined unit.geometry) (found_unit setting nodes unit.site ∷ []) []

-- the undefined units among some, as far as their own ligands decide it; `nodes` bounds each digraph
abbrev pub found_among : LabelContext → ℕ → List units.Unit → List UndefinedUnit
found_among setting nodes all = flat_map (found_at setting nodes) all
