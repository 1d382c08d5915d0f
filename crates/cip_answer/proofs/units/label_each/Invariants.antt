use Rattle.std.proofs.Common.{◌≡◌, map, take}
use Rattle.cip_answer.specs.Answers.{unit_answer}
use Rattle.cip_answer.specs.SymmetryLabels.{AreFound}
use Rattle.cip_answer.proofs.units.label_each.Given as goal

abbrev pub invariant-loop-place : goal.invariant-loop-place
invariant-loop-place g l = record {
  so_far : l.answers
      ≡ map (unit_answer l.setting.rules l.fn.labeller l.setting.graph l.setting.positions l.setting.units)
      (take l.place l.setting.units);
  all : l.units ≡ l.setting.units;
  kept : l.labeller ≡ l.fn.labeller;
  found : AreFound l.setting l.fn.labeller l.images;
}
