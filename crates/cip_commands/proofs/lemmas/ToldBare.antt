-- What is written for a record is what is written for it without its label items.
use Rattle.std.proofs.Common.{◌≡◌, ◌==◌, ℕ, List, Bool, true, false, refl, sym, ◌∙◌, ap, if◌then◌else◌}
use Rattle.cip_item.proofs.lemmas.Walking.{itself}
use Rattle.cip_item.specs.Parts.{has_label_item, without_label_items}
use Rattle.cip_edit.proofs.lemmas.MirrorReads.{mirror_reads}
use Rattle.cip_edit.specs.Answers.{GivesReflected, mirror_answer}
use Rattle.cip_edit.specs.declared.mirror_answer.MirrorAnswer.{MirrorAnswer}
use Rattle.cip_edit.specs.declared.mirror_answer.MirrorAnswer.TheVariants as mirrored
use Rattle.cip_mol.specs.declared.labels.centre_letter.CentreLetter.{CentreLetter}
use Rattle.cip_edit.proofs.lemmas.SetReads.{set_reads}
use Rattle.cip_edit.specs.SetAnswers.{GivesMark, set_answer, set_without_items}
use Rattle.cip_edit.specs.declared.set_answer.SetAnswer.{SetAnswer}
use Rattle.cip_edit.specs.declared.set_answer.SetAnswer.TheVariants as sets
use Rattle.cip_rank.specs.declared.rules.Rules.{Rules}
use Rattle.cip_batch.specs.Batches.{Output, output_of}
use Rattle.cip_words.specs.Ranges.{Labelling}
use Rattle.cip_words.specs.declared.settings.Task.{Task}
use Rattle.cip_words.specs.declared.settings.Task.TheVariants.{Set, Mirror}
use Rattle.cip_commands.specs.Changing.{Change, mirrored_to, reflected, set_to, unchanged, with_letter}
use Rattle.cip_commands.specs.Telling.{annotated, explained, is_flagged_record, expected_output}
use Rattle.cip_commands.specs.TellingBare.{annotate_change, output_without_items}
use Rattle.cip_commands.specs.declared.exit_reason.ChangeNote.{ChangeNote}

module _ (labelling : Labelling) where
  -- what is written for a record follows from its bytes without label items
  abbrev of_change : Change → Output ChangeNote
  of_change change = record {
    text = annotated labelling.rules labelling.nodes change.bytes;
    verdict = record { flagged = is_flagged_record labelling.rules labelling.nodes change.bytes; note = change.note };
  }

  abbrev bared : Change → Change
  bared change = record { bytes = without_label_items change.bytes; note = change.note }

  bare_told : (change : Change) → annotate_change labelling (bared change) ≡ of_change change
  unfolding annotated is_flagged_record
  bare_told change = refl

  -- what was written has no label item, and where nothing was written the record stays
  set_bared : (bytes : List ℕ) (atom : ℕ) (letter : CentreLetter) (answer : SetAnswer)
      → GivesMark labelling.rules labelling.nodes atom letter bytes answer
      → bared (set_to bytes answer) ≡ set_to (without_label_items bytes) answer
  set_bared bytes atom letter (sets.Written text) gives =
      ap (λ bare. set_to bytes (sets.Written bare)) (itself text gives.free)
  set_bared bytes atom letter (sets.Refused refusal) gives = refl

  mirror_bared : (bytes : List ℕ) (answer : MirrorAnswer) → GivesReflected bytes answer
      → bared (mirrored_to bytes answer) ≡ mirrored_to (without_label_items bytes) answer
  mirror_bared bytes (mirrored.Written text) gives =
      ap (λ bare. mirrored_to bytes (mirrored.Written bare)) (itself text gives.free)
  mirror_bared bytes (mirrored.Refused refusal) gives = refl

  letter_bared : (named atom : ℕ) (letter : CentreLetter) (number : ℕ) (bytes : List ℕ) (k : Bool)
      → (number == named) ≡ k → bared (with_letter labelling.rules labelling.nodes named atom letter number bytes)
      ≡ (if number == named
      then set_to (without_label_items bytes) (set_answer labelling.rules labelling.nodes atom letter bytes)
      else unchanged (without_label_items bytes))
  unfolding with_letter
  letter_bared named atom letter number bytes true k =
      rw k (set_bared bytes atom letter (set_answer labelling.rules labelling.nodes atom letter bytes)
      (set_reads labelling.rules labelling.nodes atom letter bytes))
  letter_bared named atom letter number bytes false k = rw k refl

  reflected_bared : (bytes : List ℕ)
      → bared (reflected bytes) ≡ mirrored_to (without_label_items bytes) (mirror_answer bytes)
  unfolding reflected
  reflected_bared bytes = mirror_bared bytes (mirror_answer bytes) (mirror_reads bytes)

  pub bare_is_told : (task : Task) (number : ℕ) (bytes : List ℕ)
      → output_without_items labelling task number (without_label_items bytes)
      ≡ output_of (expected_output task labelling) number bytes
  unfolding annotated explained is_flagged_record
  bare_is_told (Set named atom letter) number bytes =
      ap (annotate_change labelling) (sym (letter_bared named atom letter number bytes (number == named) refl))
      ∙ bare_told (with_letter labelling.rules labelling.nodes named atom letter number bytes)
  bare_is_told Mirror number bytes =
      ap (annotate_change labelling) (sym (reflected_bared bytes)) ∙ bare_told (reflected bytes)
  bare_is_told task number bytes = refl

  -- a record without label items, and one of which they were taken out
  pub told_itself : (task : Task) (number : ℕ) (bytes : List ℕ) → has_label_item bytes ≡ false
      → output_without_items labelling task number bytes ≡ output_of (expected_output task labelling) number bytes
  told_itself task number bytes none =
      ap (output_without_items labelling task number) (sym (itself bytes none)) ∙ bare_is_told task number bytes

  -- what was found by the same rules and bound is the answer
  pub set_by : (rules : Rules) (nodes atom : ℕ) (letter : CentreLetter) (bytes : List ℕ) (found answer : SetAnswer)
      → found ≡ answer → found ≡ set_without_items rules nodes atom letter bytes → rules ≡ labelling.rules
      → nodes ≡ labelling.nodes → answer ≡ set_without_items labelling.rules labelling.nodes atom letter bytes
  set_by rules nodes atom letter bytes found answer is gives same fit =
      sym is ∙ gives ∙ ap (λ rules. set_without_items rules nodes atom letter bytes) same
      ∙ ap (λ nodes. set_without_items labelling.rules nodes atom letter bytes) fit
