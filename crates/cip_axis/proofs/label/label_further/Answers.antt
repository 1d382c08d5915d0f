use Rattle.std.proofs.Common.{◌∙◌, ap, arith}
use Rattle.std.proofs.lemmas.Result.{IfOk-weaker}
use Rattle.cip_axis.specs.Likeness.{like}
use Rattle.cip_label.specs.Settings.{known_in}
use Rattle.cip_label.proofs.lemmas.UnitOutcomes.{known_unit, unknown_unit}
use Rattle.std.proofs.lemmas.Grind.{common_steps}
use Rattle.cip_axis.proofs.label.label_further.Goals as goal

pub returns-in-Unknown-clause-outcome : goal.returns-in-Unknown-clause-outcome
returns-in-Unknown-clause-outcome g c =
    unknown_unit c.args.setting.now c.args.labeller.now (like c.args.unit.now.site) c.args.unit.now.geometry
    c.in-Unknown.cause c.in-Unknown.is

pub returns-in-Known-clause-outcome : goal.returns-in-Known-clause-outcome
returns-in-Known-clause-outcome g c =
    IfOk-weaker c.label_ends.result _ _
    (λ outcome is.
    is ∙ ap (λ site. known_in c.args.setting.now c.args.labeller.now site c.in-Known.sense) c.ends.ensures
    ∙ known_unit c.args.setting.now c.args.labeller.now (like c.args.unit.now.site) c.args.unit.now.geometry
    c.in-Known.sense c.in-Known.is) c.label_ends.ensures.outcome

pub label_ends-requires : goal.label_ends-requires
label_ends-requires g c = grind (arith, common_steps)
