-- What is written for a record that has no label items. Own.
use Rattle.std.specs.Prelude.{◌==◌, ℕ, List, if◌then◌else◌}
use Rattle.cip_answer.specs.AxesTexts.{axes_without_items, is_flagged_without_items}
use Rattle.cip_stereogroups.specs.Texts as groups
use Rattle.cip_edit.specs.Answers as mirrors
use Rattle.cip_mol.specs.declared.labels.centre_letter.CentreLetter.{CentreLetter}
use Rattle.cip_print.specs.declared.answer.Answer.{Answer}
use Rattle.cip_print.specs.Explaining as telling
use Rattle.cip_answer.specs.Answers.{answer_without_items, is_flagged}
use Rattle.cip_edit.specs.SetAnswers.{set_without_items}
use Rattle.cip_batch.specs.Batches.{Output}
use Rattle.cip_words.specs.Ranges.{Labelling}
use Rattle.cip_words.specs.declared.settings.Task.{Task}
use Rattle.cip_words.specs.declared.settings.Task.TheVariants.{Annotate, Explain, Set, Mirror, Groups, Axes}
use Rattle.cip_commands.specs.Changing.{Change, mirrored_to, set_to, unchanged}
use Rattle.cip_commands.specs.Telling.{plainly, with_answer}
use Rattle.cip_commands.specs.declared.exit_reason.ChangeNote.{ChangeNote}

module _ (labelling : Labelling) where
  abbrev pub answer_bare : List ℕ → Answer
  answer_bare bare = answer_without_items labelling.rules labelling.nodes bare

  -- a changed record, annotated
  abbrev pub annotate_change : Change → Output ChangeNote
  annotate_change change = record {
    text = with_answer labelling.rules labelling.nodes change.bytes (answer_bare change.bytes);
    verdict = record { flagged = is_flagged (answer_bare change.bytes); note = change.note };
  }

  abbrev pub explain_bare : ℕ → List ℕ → Output ChangeNote
  explain_bare number bare = record {
    text = telling.explained number (answer_bare bare);
    verdict = plainly (is_flagged (answer_bare bare));
  }

  abbrev pub set_bare : ℕ → ℕ → CentreLetter → ℕ → List ℕ → Change
  set_bare named atom letter number bare =
      if number == named then set_to bare (set_without_items labelling.rules labelling.nodes atom letter bare)
      else unchanged bare

  abbrev pub mirror_bare : List ℕ → Change
  mirror_bare bare = mirrored_to bare (mirrors.answer_without_items bare)

  abbrev pub groups_bare : ℕ → List ℕ → Output ChangeNote
  groups_bare number bare = record {
    text = (groups.with_number number (groups.told_without_items labelling.rules labelling.nodes bare)).text;
    verdict = plainly (groups.told_without_items labelling.rules labelling.nodes bare).flagged;
  }

  abbrev pub axes_bare : ℕ → List ℕ → Output ChangeNote
  axes_bare number bare = record {
    text = axes_without_items labelling.rules labelling.nodes number bare;
    verdict = plainly (is_flagged_without_items labelling.rules labelling.nodes bare);
  }

  abbrev pub output_without_items : Task → ℕ → List ℕ → Output ChangeNote
  output_without_items Annotate number bare = annotate_change (unchanged bare)
  output_without_items Explain number bare = explain_bare number bare
  output_without_items (Set named atom letter) number bare = annotate_change (set_bare named atom letter number bare)
  output_without_items Mirror number bare = annotate_change (mirror_bare bare)
  output_without_items Groups number bare = groups_bare number bare
  output_without_items Axes number bare = axes_bare number bare
