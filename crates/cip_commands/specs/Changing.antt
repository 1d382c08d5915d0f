-- What becomes of the records of a stream in which one is to have a letter, or all are to be reflected. Own.
use Rattle.std.specs.Prelude.{◌==◌, ℕ, List, Some, None, if◌then◌else◌}
use Rattle.std.specs.declared.option.Option.{Option}
use Rattle.cip_edit.specs.Answers.{mirror_answer}
use Rattle.cip_edit.specs.declared.mirror_answer.MirrorAnswer.{MirrorAnswer}
use Rattle.cip_edit.specs.declared.mirror_answer.MirrorAnswer.TheVariants as mirrors
use Rattle.cip_mol.specs.declared.labels.centre_letter.CentreLetter.{CentreLetter}
use Rattle.cip_rank.specs.declared.rules.Rules.{Rules}
use Rattle.cip_edit.specs.SetAnswers.{set_answer}
use Rattle.cip_edit.specs.declared.set_answer.SetAnswer.{SetAnswer}
use Rattle.cip_edit.specs.declared.set_answer.SetAnswer.TheVariants as sets
use Rattle.cip_commands.specs.declared.exit_reason.ChangeFailure.TheVariants.{NotSet, NotMirrored}
use Rattle.cip_commands.specs.declared.exit_reason.ChangeNote.{ChangeNote}
use Rattle.cip_commands.specs.declared.exit_reason.ChangeNote.TheVariants.{Changed, Missing}

-- what becomes of a record, and a note on it
pub record Change : Type 0 where
  pub bytes : List ℕ
  pub note : Option ChangeNote

abbrev pub unchanged : List ℕ → Change
unchanged bytes = record { bytes = bytes; note = None }

abbrev pub set_to : List ℕ → SetAnswer → Change
set_to bytes (sets.Written text) = record { bytes = text; note = Some Changed }
set_to bytes (sets.Refused refusal) = record { bytes = bytes; note = Some (Missing (NotSet refusal)) }

abbrev pub mirrored_to : List ℕ → MirrorAnswer → Change
mirrored_to bytes (mirrors.Written text) = record { bytes = text; note = None }
mirrored_to bytes (mirrors.Refused refusal) = record { bytes = bytes; note = Some (Missing NotMirrored) }

-- the record of one number is to have the letter
unfoldable pub with_letter : Rules → ℕ → ℕ → ℕ → CentreLetter → ℕ → List ℕ → Change
with_letter rules nodes named atom letter number bytes =
    if number == named then set_to bytes (set_answer rules nodes atom letter bytes) else unchanged bytes

unfoldable pub reflected : List ℕ → Change
reflected bytes = mirrored_to bytes (mirror_answer bytes)
