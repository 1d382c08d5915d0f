-- What is found of further units: as of the bond or axis unit that each is like, in digraphs that are ranked with the
-- units of the record alone. IUPAC 2013, P-93; that further units put no descriptors into digraphs is own.
use Rattle.std.specs.Prelude.{ℕ, List, map, All}
use Rattle.cip_rank.specs.declared.rules.Rules.{Rules}
use Rattle.cip_mol.specs.Drawing.{Drawing}
use Rattle.cip_mol.specs.declared.labels.outcome.Outcome.{Outcome}
use Rattle.cip_mol.specs.declared.site.Unit as units
use Rattle.cip_digraph.specs.graph.Graph.{Graph}
use Rattle.cip_digraph.specs.graph.SoundGraphs.{IsSound}
use Rattle.cip_axis.specs.Further.{further_of}
use Rattle.cip_axis.specs.Likeness.{like}
use Rattle.cip_axis.specs.declared.site.FurtherUnit.{FurtherUnit}
use Rattle.cip_label.specs.Fitting.{IsFitSite}
use Rattle.cip_label.specs.Settings.{LabelContext, outcome_in, setting_in}

abbrev pub as_unit : FurtherUnit → units.Unit
as_unit unit = record { site = like unit.site; geometry = unit.geometry }

abbrev pub further_outcome : LabelContext → ℕ → FurtherUnit → Outcome
further_outcome setting bound unit = outcome_in setting bound (as_unit unit)

abbrev pub further_outcome_in : Rules → ℕ → Drawing → FurtherUnit → Outcome
further_outcome_in rules bound drawing unit = further_outcome (setting_in rules drawing) bound unit

-- the ligands of each can be ranked
abbrev pub AreFurtherFit : Graph → List FurtherUnit → Type 0
AreFurtherFit graph all = All (λ unit. IsFitSite graph (like unit.site)) all

-- those of a sound graph
abbrev pub FurtherUnitsAreFit : Type 0
FurtherUnitsAreFit = (drawing : Drawing) (graph : Graph) (positions : List (List ℕ)) → IsSound graph →
    AreFurtherFit graph (further_of drawing graph positions)
