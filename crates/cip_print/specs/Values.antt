-- The value lines of a record's item, version 2. Own.
use Rattle.std.specs.Prelude.{ℕ, List, [], ◌<◌, ◌-◌, ◌^◌, ◌∷◌, ◌++◌, ⊤, codes, decimal, length, Some, None}
use Rattle.std.specs.declared.option.Option.{Option}
use Rattle.std.specs.List.{filter_map}
use Rattle.cip_mol.specs.declared.labels.outcome.Outcome.{Outcome}
use Rattle.cip_mol.specs.declared.labels.outcome.Outcome.TheVariants as outcomes
use Rattle.cip_rank.specs.declared.rules.Rules.{Rules}
use Rattle.cip_rank.specs.declared.rules.Rules.TheVariants.{Wording2013, Wording2018}
use Rattle.cip_print.specs.declared.answer.Answer.{Answer}
use Rattle.cip_print.specs.declared.answer.Answer.TheVariants.{Labelled, Refused}
use Rattle.cip_print.specs.declared.answer.UnitAnswer.{UnitAnswer}
use Rattle.cip_print.specs.Labels.{ordered_label}
use Rattle.cip_print.specs.Naming.{name_text}
use Rattle.cip_print.specs.Refusals.{refusal_line}

abbrev pub year_text : Rules → List ℕ
year_text Wording2013 = codes "2013"
year_text Wording2018 = codes "2018"

-- the version of the item, and what the labels rest on: the wording of Rule 1b, and the bound on the nodes of a digraph
abbrev pub settings_line : ℕ → Rules → List ℕ
settings_line nodes rules = codes "cip 2 rule1b " ++ (year_text rules ++ (codes " nodes " ++ decimal nodes))

-- the line of a unit; none where two ligands tie or the drawing shows no sense
abbrev pub outcome_line : UnitAnswer → Outcome → Option (List ℕ)
outcome_line unit (outcomes.Label label) = Some (ordered_label unit label)
outcome_line unit outcomes.Over = Some (name_text unit.name ++ codes " over")
outcome_line unit outcomes.Tie = None
outcome_line unit (outcomes.NoGeometry cause) = None

abbrev pub unit_line : UnitAnswer → Option (List ℕ)
unit_line unit = outcome_line unit unit.outcome

abbrev pub or_none : List (List ℕ) → List (List ℕ)
or_none [] = codes "none" ∷ []
or_none (line ∷ lines) = line ∷ lines

-- there is room for the lines of all units after a first line
abbrev pub HasRoom : Answer → Type 0
HasRoom (Labelled units) = length units < 2 ^ 32 - 1
HasRoom (Refused fault) = ⊤

-- The value lines of an answer.
unfoldable pub values_of : ℕ → Rules → Answer → List (List ℕ)
values_of nodes rules (Labelled units) = settings_line nodes rules ∷ or_none (filter_map unit_line units)
values_of nodes rules (Refused fault) = settings_line nodes rules ∷ refusal_line fault ∷ []
