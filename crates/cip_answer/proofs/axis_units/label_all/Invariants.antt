use Rattle.std.proofs.Common.{◌≡◌, map, take}
use Rattle.cip_answer.specs.FurtherAnswers.{further_answer}
use Rattle.cip_answer.proofs.axis_units.label_all.Given as goal

abbrev pub invariant-loop-unit : goal.invariant-loop-unit
invariant-loop-unit g l = record {
  so_far : l.answers ≡ map (further_answer l.setting l.fn.labeller) (take l.unit-index l.units);
  kept : l.labeller ≡ l.fn.labeller;
}
