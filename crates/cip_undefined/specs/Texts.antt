-- What is written for the undefined units of a record: a line for each, `open` with the rule, the sphere and the order
-- where its ligands all differ, else `dependent`, `tie` or `over`; or the refusal. Own.
use Rattle.std.specs.Prelude.{ℕ, List, [], ◌∷◌, ◌++◌, codes, decimal}
use Rattle.std.specs.List.{flat_map}
use Rattle.cip_mol.specs.Letters.{rule_text}
use Rattle.cip_print.specs.Labels.{names_in_order}
use Rattle.cip_print.specs.Naming.{name_text}
use Rattle.cip_print.specs.Refusals.{refusal_line}
use Rattle.cip_undefined.specs.declared.unit.State.{State}
use Rattle.cip_undefined.specs.declared.unit.State.TheVariants.{Open, Dependent, Tie, Over}
use Rattle.cip_undefined.specs.declared.unit.UndefinedAnswer.{UndefinedAnswer}
use Rattle.cip_undefined.specs.declared.unit.UndefinedAnswer.TheVariants.{Listed, Refused}
use Rattle.cip_undefined.specs.declared.unit.UndefinedUnit.{UndefinedUnit}

abbrev pub state_text : UndefinedUnit → State → List ℕ
state_text unit (Open rule sphere order) =
    (codes " open " ++ (rule_text rule ++ (codes " " ++ (decimal sphere ++ codes " order"))))
    ++ names_in_order unit.drawn unit.site order
state_text unit Dependent = codes " dependent"
state_text unit Tie = codes " tie"
state_text unit Over = codes " over"

-- the line of a unit
unfoldable pub undefined_line : UndefinedUnit → List ℕ
undefined_line unit = name_text unit.name ++ state_text unit unit.state ++ 10 ∷ []

unfoldable pub undefined_text : UndefinedAnswer → List ℕ
undefined_text (Listed units) = flat_map undefined_line units
undefined_text (Refused fault) = refusal_line fault ++ 10 ∷ []
