-- The answer to a record by its further units alone: its refusal, or each cumulene and biaryl axis with its outcome. IUPAC
-- 2013, P-93; own: the digraphs are ranked with the record's own units, since further units put no descriptors into them.
use Rattle.std.specs.Prelude.{ℕ, List, map, Result, Ok, Err}
use Rattle.cip_text.specs.Bodies.{body_contents}
use Rattle.cip_rank.specs.declared.rules.Rules.{Rules}
use Rattle.cip_mol.specs.Drawing.{Drawing}
use Rattle.cip_mol.specs.declared.labels.refusal.ReadFault.{ReadFault}
use Rattle.cip_label.specs.Settings.{LabelContext, setting_in}
use Rattle.cip_axis.specs.Further.{further_in}
use Rattle.cip_axis.specs.FurtherOutcomes.{further_outcome}
use Rattle.cip_axis.specs.Likeness.{like}
use Rattle.cip_axis.specs.declared.site.FurtherSite.{FurtherSite}
use Rattle.cip_axis.specs.declared.site.FurtherSite.TheVariants.{Cumulene, Biaryl}
use Rattle.cip_axis.specs.declared.site.FurtherUnit.{FurtherUnit}
use Rattle.cip_print.specs.declared.answer.Answer.{Answer}
use Rattle.cip_print.specs.declared.answer.Answer.TheVariants.{Labelled, Refused}
use Rattle.cip_print.specs.declared.answer.UnitAnswer.{UnitAnswer}
use Rattle.cip_print.specs.declared.unit_name.UnitName.{UnitName}
use Rattle.cip_print.specs.declared.unit_name.UnitName.TheVariants as names
use Rattle.cip_molfile.specs.Molecules.{read_molecule}

abbrev pub further_name : FurtherSite → UnitName
further_name (Cumulene a b bonds first second) = names.Cumulene a b
further_name (Biaryl a b first second) = names.Biaryl a b

-- a further unit with its outcome; `nodes` bounds each of its digraphs
abbrev pub further_answer : LabelContext → ℕ → FurtherUnit → UnitAnswer
further_answer setting nodes unit = record {
  name = further_name unit.site;
  site = like unit.site;
  drawn = setting.graph.drawn;
  outcome = further_outcome setting nodes unit;
}

module _ (rules : Rules) (nodes : ℕ) where
  abbrev pub further_answers : Drawing → List FurtherUnit → Answer
  further_answers drawing further = Labelled (map (further_answer (setting_in rules drawing) nodes) further)

  unfoldable pub further_of_molecule : Drawing → Answer
  further_of_molecule drawing = further_answers drawing (further_in drawing)

  abbrev pub further_of_reading : Result Drawing ReadFault → Answer
  further_of_reading (Ok drawing) = further_of_molecule drawing
  further_of_reading (Err fault) = Refused fault

  -- of the lines of a record without label items
  unfoldable pub further_of_lines : List (List ℕ) → Answer
  further_of_lines lines = further_of_reading (read_molecule lines)

  -- of a record without label items
  abbrev pub further_of_record : List ℕ → Answer
  further_of_record bytes = further_of_lines (body_contents bytes)
