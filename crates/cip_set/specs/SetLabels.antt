-- What is answered of a record in which a centre was given a letter. Own.
use Rattle.std.specs.Prelude.{◌≡◌, ◌-◌, ℕ, List, slice_get, Some}
use Rattle.cip_rank.specs.declared.rules.Rules.{Rules}
use Rattle.cip_mol.specs.CentreLetters.{descriptor_of}
use Rattle.cip_mol.specs.declared.labels.centre_letter.CentreLetter.{CentreLetter}
use Rattle.cip_mol.specs.declared.labels.descriptor.Descriptor.{Descriptor}
use Rattle.cip_print.specs.declared.answer.Answer.{Answer}
use Rattle.cip_print.specs.declared.answer.Answer.TheVariants as answers
use Rattle.cip_print.specs.declared.answer.UnitAnswer.{UnitAnswer}
use Rattle.cip_answer.specs.Answers.{answer_by}
use Rattle.cip_edit.specs.SetLetters.{HasLetter}
use Rattle.cip_edit.specs.UnitsBeside.{IsCentreAt}
use Rattle.cip_edit.specs.SetAnswers.{set_answer, IsMarked}
use Rattle.cip_edit.specs.declared.set_answer.SetAnswer.{SetAnswer}
use Rattle.cip_edit.specs.declared.set_answer.SetAnswer.TheVariants.{Written, Refused}

-- among the units of a record that were answered, the centre at an atom has this letter
pub record IsLabelledAt (letter : Descriptor) (atom : ℕ) (units : List UnitAnswer) : Type 0 where
  pub place : ℕ
  pub unit : UnitAnswer
  pub there : slice_get units place ≡ Some unit
  pub centre : IsCentreAt atom unit.site
  pub has : HasLetter letter unit.outcome

abbrev pub LabelsAt : Descriptor → ℕ → Answer → Type 0
LabelsAt letter atom (answers.Labelled units) = IsLabelledAt letter atom units
LabelsAt letter atom (answers.Refused fault) = ⊥

-- what is written is read as the drawing with the mark; the answer to it gives the centre the asked letter
pub record IsSet (rules : Rules) (nodes atom : ℕ) (letter : CentreLetter) (bytes text : List ℕ) : Type 0 where
  pub marked : IsMarked rules nodes atom letter bytes text
  pub labels : LabelsAt (descriptor_of letter) (atom - 1) (answer_by rules nodes text)

abbrev pub GivesLetter : Rules → ℕ → ℕ → CentreLetter → List ℕ → SetAnswer → Type 0
GivesLetter rules nodes atom letter bytes (Written text) = IsSet rules nodes atom letter bytes text
GivesLetter rules nodes atom letter bytes (Refused refusal) = Unit {0}

abbrev pub SetRecordsAreRead : Type 0
SetRecordsAreRead =
    (rules : Rules) (nodes atom : ℕ) (letter : CentreLetter) (bytes : List ℕ) →
    GivesLetter rules nodes atom letter bytes (set_answer rules nodes atom letter bytes)
