use Rattle.std.proofs.Common.{◌≡◌, drop}
use Rattle.std.specs.List.{list_any}
use Rattle.cip_print.specs.declared.answer.UnitAnswer.{UnitAnswer}
use Rattle.cip_answer.specs.Answers.{is_over}
use Rattle.cip_answer.proofs.record_answer.has_over.Given as goal

abbrev pub invariant-loop-unit : goal.invariant-loop-unit
invariant-loop-unit l =
    list_any (λ (unit : UnitAnswer). is_over unit.outcome) (drop l.unit-index l.units)
    ≡ list_any (λ (unit : UnitAnswer). is_over unit.outcome) l.units
