-- What is written for a record, by what is asked. Own.
use Rattle.std.specs.Prelude.{ℕ, List, Bool, true, false, None}
use Rattle.cip_answer.specs.AxesTexts.{are_axes_flagged, axes_of}
use Rattle.cip_stereogroups.specs.Texts as groups
use Rattle.cip_item.specs.Parts.{without_label_items}
use Rattle.cip_item.specs.Putting.{with_item}
use Rattle.cip_mol.specs.declared.labels.centre_letter.CentreLetter.{CentreLetter}
use Rattle.cip_print.specs.declared.answer.Answer.{Answer}
use Rattle.cip_print.specs.Explaining as telling
use Rattle.cip_print.specs.Values.{values_of}
use Rattle.cip_rank.specs.declared.rules.Rules.{Rules}
use Rattle.cip_answer.specs.Answers.{answer_by, is_flagged}
use Rattle.cip_batch.specs.ExpectedOutput.{ExpectedOutput}
use Rattle.cip_batch.specs.declared.status.StreamStatus.{StreamStatus}
use Rattle.cip_words.specs.Ranges.{Labelling}
use Rattle.cip_words.specs.declared.settings.Task.{Task}
use Rattle.cip_words.specs.declared.settings.Task.TheVariants.{Annotate, Explain, Set, Mirror, Groups, Axes}
use Rattle.cip_commands.specs.Changing.{Change, reflected, with_letter}
use Rattle.cip_commands.specs.declared.exit_reason.ChangeNote.{ChangeNote}

-- a record without its label items, with the item of its answer
abbrev pub with_answer : Rules → ℕ → List ℕ → Answer → List ℕ
with_answer rules nodes bare answer = with_item bare (values_of nodes rules answer)

-- A record with its item. Label items that it has are taken out first.
unfoldable pub annotated : Rules → ℕ → List ℕ → List ℕ
annotated rules nodes bytes = with_answer rules nodes (without_label_items bytes) (answer_by rules nodes bytes)

-- The units of the record of this number, each with what is found of it.
unfoldable pub explained : Rules → ℕ → ℕ → List ℕ → List ℕ
explained rules nodes number bytes = telling.explained number (answer_by rules nodes bytes)

-- a record is refused, or a digraph is larger than the bound
unfoldable pub is_flagged_record : Rules → ℕ → List ℕ → Bool
is_flagged_record rules nodes bytes = is_flagged (answer_by rules nodes bytes)

-- without a note
abbrev pub plainly : Bool → StreamStatus ChangeNote
plainly flagged = record { flagged = flagged; note = None }

-- by the task

abbrev pub annotating : Rules → ℕ → ExpectedOutput ChangeNote
annotating rules nodes = record {
  text = λ number bytes. annotated rules nodes bytes;
  verdict = λ number bytes. plainly (is_flagged_record rules nodes bytes);
  keeps_blank_tail = true;
}

abbrev pub explaining : Rules → ℕ → ExpectedOutput ChangeNote
explaining rules nodes = record {
  text = λ number bytes. explained rules nodes number bytes;
  verdict = λ number bytes. plainly (is_flagged_record rules nodes bytes);
  keeps_blank_tail = false;
}

-- each record is annotated once it is changed
abbrev pub changing : Rules → ℕ → (ℕ → List ℕ → Change) → ExpectedOutput ChangeNote
changing rules nodes change = record {
  text = λ number bytes. annotated rules nodes (change number bytes).bytes;
  verdict = λ number bytes. record {
    flagged = is_flagged_record rules nodes (change number bytes).bytes;
    note = (change number bytes).note;
  };
  keeps_blank_tail = true;
}

abbrev pub setting : Rules → ℕ → ℕ → ℕ → CentreLetter → ExpectedOutput ChangeNote
setting rules nodes named atom letter = changing rules nodes (with_letter rules nodes named atom letter)

abbrev pub mirroring : Rules → ℕ → ExpectedOutput ChangeNote
mirroring rules nodes = changing rules nodes (λ number bytes. reflected bytes)

abbrev pub grouping : Rules → ℕ → ExpectedOutput ChangeNote
grouping rules nodes = record {
  text = λ number bytes. (groups.told_of rules nodes number bytes).text;
  verdict = λ number bytes. plainly (groups.told_without_items rules nodes (without_label_items bytes)).flagged;
  keeps_blank_tail = false;
}

-- by further units
abbrev pub seeking : Rules → ℕ → ExpectedOutput ChangeNote
seeking rules nodes = record {
  text = λ number bytes. axes_of rules nodes number bytes;
  verdict = λ number bytes. plainly (are_axes_flagged rules nodes bytes);
  keeps_blank_tail = false;
}

abbrev pub expected_output : Task → Labelling → ExpectedOutput ChangeNote
expected_output Annotate labelling = annotating labelling.rules labelling.nodes
expected_output Explain labelling = explaining labelling.rules labelling.nodes
expected_output (Set named atom letter) labelling = setting labelling.rules labelling.nodes named atom letter
expected_output Mirror labelling = mirroring labelling.rules labelling.nodes
expected_output Groups labelling = grouping labelling.rules labelling.nodes
expected_output Axes labelling = seeking labelling.rules labelling.nodes
