-- What is written for the stereo groups of a record. Own.
use Rattle.std.specs.Prelude.{ℕ, List, [], ◌∷◌, ◌++◌, ◌+◌, ◌||◌, Bool, true, false, codes, decimal, flat_map, Some, None, Result, Ok, Err, if◌then◌else◌}
use Rattle.std.specs.declared.option.Option.{Option}
use Rattle.std.specs.List.{list_any}
use Rattle.cip_text.specs.Bodies.{body_contents}
use Rattle.cip_rank.specs.declared.rules.Rules.{Rules}
use Rattle.cip_mol.specs.Drawing.{Drawing}
use Rattle.cip_mol.specs.Letters.{letter_text}
use Rattle.cip_mol.specs.declared.labels.outcome.Outcome.{Outcome}
use Rattle.cip_mol.specs.declared.labels.outcome.Outcome.TheVariants as outcomes
use Rattle.cip_mol.specs.declared.labels.refusal.ReadFault.{ReadFault}
use Rattle.cip_item.specs.Parts.{without_label_items}
use Rattle.cip_label.specs.Settings.{setting_in}
use Rattle.cip_print.specs.Refusals.{refusal_line}
use Rattle.cip_v2000.specs.Grammar as v2000
use Rattle.cip_v2000.specs.Version.{is_v3000}
use Rattle.cip_v3000.specs.Tables.{Table, table_of}
use Rattle.cip_stereogroups.specs.declared.faults.GroupFault.{GroupFault}
use Rattle.cip_stereogroups.specs.declared.groups.Group.{Group}
use Rattle.cip_stereogroups.specs.declared.group_outcomes.BothOutcomes.{BothOutcomes}
use Rattle.cip_stereogroups.specs.declared.group_outcomes.GroupLine.{GroupLine}
use Rattle.cip_stereogroups.specs.declared.group_text.GroupText.{GroupText}
use Rattle.cip_stereogroups.specs.Collections.{groups_of}
use Rattle.cip_stereogroups.specs.Outcomes.{lines_of_groups}
use Rattle.cip_stereogroups.specs.Telling.{cause_text, kind_text}

abbrev pub outcome_text : Outcome → List ℕ
outcome_text (outcomes.Label label) = letter_text label.letter
outcome_text outcomes.Tie = codes "tie"
outcome_text outcomes.Over = codes "over"
outcome_text (outcomes.NoGeometry cause) = codes "none"

-- an atom that is no centre has no outcomes
abbrev pub both_text : Option BothOutcomes → List ℕ
both_text None = codes "-"
both_text (Some both) = outcome_text both.drawn ++ (codes " " ++ outcome_text both.turned)

-- the line of an atom, which is counted from 1
unfoldable pub line_text : GroupLine → List ℕ
line_text line =
    kind_text line.kind
    ++ (codes " a" ++ (decimal (line.atom + 1) ++ (codes " " ++ (both_text line.outcomes ++ 10 ∷ []))))

abbrev pub is_over : Outcome → Bool
is_over outcomes.Over = true
is_over outcomes.Tie = false
is_over (outcomes.Label label) = false
is_over (outcomes.NoGeometry cause) = false

abbrev pub some_over : Option BothOutcomes → Bool
some_over None = false
some_over (Some both) = is_over both.drawn || is_over both.turned

abbrev pub fault_line : GroupFault → List ℕ
fault_line fault = codes "groups " ++ (decimal fault.line ++ (codes " " ++ (cause_text fault.cause ++ 10 ∷ [])))

-- what is written, and whether it is a refusal or an outcome is over

abbrev pub of_lines : List GroupLine → GroupText
of_lines lines = record { text = flat_map line_text lines; flagged = list_any (λ line. some_over line.outcomes) lines }

abbrev pub refused : ReadFault → GroupText
refused fault = record { text = refusal_line fault ++ 10 ∷ []; flagged = true }

-- a record of version V2000 has no groups
abbrev pub of_molecule : Result Drawing ReadFault → GroupText
of_molecule (Ok drawing) = record { text = []; flagged = false }
of_molecule (Err fault) = refused fault

module _ (rules : Rules) (nodes : ℕ) where
  abbrev pub of_groups : Drawing → Result (List Group) GroupFault → GroupText
  of_groups drawing (Ok groups) = of_lines (lines_of_groups nodes (setting_in rules drawing) groups)
  of_groups drawing (Err fault) = record { text = fault_line fault; flagged = true }

  abbrev pub of_table : Result Table ReadFault → GroupText
  of_table (Ok table) = of_groups table.drawing (groups_of table)
  of_table (Err fault) = refused fault

  -- of the contents of a record's lines before its terminator line
  abbrev pub of_contents : List (List ℕ) → GroupText
  of_contents lines = if is_v3000 lines then of_table (table_of lines) else of_molecule (v2000.molecule_of lines)

  -- of a record that has no label items
  unfoldable pub told_without_items : List ℕ → GroupText
  told_without_items bytes = of_contents (body_contents bytes)

-- of the record of this number
abbrev pub with_number : ℕ → GroupText → GroupText
with_number number output = record output { text = codes "record " ++ (decimal number ++ 10 ∷ []) ++ output.text }

abbrev pub told_of : Rules → ℕ → ℕ → List ℕ → GroupText
told_of rules nodes number bytes = with_number number (told_without_items rules nodes (without_label_items bytes))
