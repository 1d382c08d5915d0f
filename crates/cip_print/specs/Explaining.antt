-- What is written for a record beside its drawing: each of its units with what is found of it. Own.
use Rattle.std.specs.Prelude.{ℕ, List, [], ◌∷◌, ◌++◌, codes, decimal}
use Rattle.cip_mol.specs.declared.labels.outcome.Outcome.{Outcome}
use Rattle.cip_mol.specs.declared.labels.outcome.Outcome.TheVariants as outcomes
use Rattle.cip_mol.specs.declared.site.Cause.{Cause}
use Rattle.cip_mol.specs.declared.site.Cause.TheVariants.{Either, Coincident, Contradictory, Reentrant, NoMark}
use Rattle.cip_print.specs.declared.answer.Answer.{Answer}
use Rattle.cip_print.specs.declared.answer.Answer.TheVariants.{Labelled, Refused}
use Rattle.cip_print.specs.declared.answer.UnitAnswer.{UnitAnswer}
use Rattle.cip_print.specs.Labels.{ordered_label}
use Rattle.cip_print.specs.Naming.{name_text}
use Rattle.cip_print.specs.Refusals.{refusal_line}

-- units

abbrev pub reason_text : Cause → List ℕ
reason_text Either = codes "Either"
reason_text Coincident = codes "Coincident"
reason_text Contradictory = codes "Contradictory"
reason_text Reentrant = codes "Reentrant"
reason_text NoMark = codes "NoMark"

abbrev pub output : UnitAnswer → Outcome → List ℕ
output unit (outcomes.Label label) = ordered_label unit label
output unit outcomes.Over = name_text unit.name ++ codes " over"
output unit outcomes.Tie = name_text unit.name ++ codes " tie"
output unit (outcomes.NoGeometry cause) = name_text unit.name ++ (codes " none " ++ reason_text cause)

-- the line of a unit
unfoldable pub told_line : UnitAnswer → List ℕ
told_line unit = output unit unit.outcome ++ 10 ∷ []

abbrev pub told_lines : List UnitAnswer → List ℕ
told_lines [] = []
told_lines (unit ∷ units) = told_line unit ++ told_lines units

-- records

abbrev pub told_answer : Answer → List ℕ
told_answer (Labelled units) = told_lines units
told_answer (Refused fault) = refusal_line fault ++ 10 ∷ []

abbrev pub record_line : ℕ → List ℕ
record_line number = codes "record " ++ (decimal number ++ 10 ∷ [])

-- what is written for the record of this number
unfoldable pub explained : ℕ → Answer → List ℕ
explained number answer = record_line number ++ told_answer answer
