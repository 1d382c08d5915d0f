-- What doesn't change an answer. Own.
use Rattle.std.specs.Prelude.{◌≡◌, ◌++◌, ℕ, List, ⊤}
use Rattle.cip_mol.specs.declared.labels.refusal.ReadCause.TheVariants.{Short}
use Rattle.cip_print.specs.declared.answer.Answer.{Answer}
use Rattle.cip_print.specs.declared.answer.Answer.TheVariants.{Labelled, Refused}
use Rattle.cip_rank.specs.declared.rules.Rules.{Rules}
use Rattle.cip_answer.specs.Answers.{answer_lines}

-- a record isn't refused for a line that is due and missing
abbrev pub IsComplete : Answer → Type 0
IsComplete (Labelled units) = ⊤
IsComplete (Refused fault) = fault.cause ≡ Short → ⊥

-- where no line is missing, lines that follow change nothing
abbrev pub LinesBehindChangeNothing : Type 0
LinesBehindChangeNothing = (rules : Rules) (nodes : ℕ) (lines more : List (List ℕ))
    → IsComplete (answer_lines rules nodes lines)
    → answer_lines rules nodes (lines ++ more) ≡ answer_lines rules nodes lines
