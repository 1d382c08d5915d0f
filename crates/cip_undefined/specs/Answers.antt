-- The answer to a record by its undefined units alone. Own.
use Rattle.std.specs.Prelude.{ℕ, List, Result, Ok, Err}
use Rattle.cip_item.specs.Parts.{without_label_items}
use Rattle.cip_text.specs.Bodies.{body_contents}
use Rattle.cip_rank.specs.declared.rules.Rules.{Rules}
use Rattle.cip_mol.specs.Drawing.{Drawing}
use Rattle.cip_mol.specs.declared.labels.refusal.ReadFault.{ReadFault}
use Rattle.cip_label.specs.Settings.{LabelContext, setting_in}
use Rattle.cip_molfile.specs.Molecules.{read_molecule}
use Rattle.cip_undefined.specs.Ties.{told_units}
use Rattle.cip_undefined.specs.UndefinedUnits.{found_among}
use Rattle.cip_undefined.specs.declared.unit.UndefinedAnswer.{UndefinedAnswer}
use Rattle.cip_undefined.specs.declared.unit.UndefinedAnswer.TheVariants.{Listed, Refused}

-- the undefined units of a setting; `nodes` bounds each of its digraphs
abbrev pub answer_in : ℕ → LabelContext → UndefinedAnswer
answer_in nodes setting = Listed (told_units setting nodes (found_among setting nodes setting.units))

module _ (rules : Rules) (nodes : ℕ) where
  abbrev pub undefined_of_reading : Result Drawing ReadFault → UndefinedAnswer
  undefined_of_reading (Ok drawing) = answer_in nodes (setting_in rules drawing)
  undefined_of_reading (Err fault) = Refused fault

  -- of the lines of a record without label items
  abbrev pub undefined_of_lines : List (List ℕ) → UndefinedAnswer
  undefined_of_lines lines = undefined_of_reading (read_molecule lines)

  unfoldable pub undefined_without_items : List ℕ → UndefinedAnswer
  undefined_without_items bytes = undefined_of_lines (body_contents bytes)

  -- of a record, whose label items are taken out first
  abbrev pub undefined_by : List ℕ → UndefinedAnswer
  undefined_by bytes = undefined_without_items (without_label_items bytes)
