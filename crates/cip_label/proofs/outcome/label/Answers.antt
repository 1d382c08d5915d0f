use Rattle.std.proofs.Common.{◌≡◌, IfOk, subst, arith}
use Rattle.cip_digraph.specs.units.Ends.{ends_of}
use Rattle.cip_label.specs.Settings.{known_in}
use Rattle.cip_label.specs.Steps.{Rises}
use Rattle.cip_label.proofs.lemmas.StepsRise.{known_rises, unknown_rises}
use Rattle.cip_label.proofs.lemmas.UnitOutcomes.{known_at, unknown_at}
use Rattle.std.proofs.lemmas.Grind.{common_steps}
use Rattle.cip_label.proofs.outcome.label.Goals as goal

pub returns-in-Unknown-clause-outcome : goal.returns-in-Unknown-clause-outcome
returns-in-Unknown-clause-outcome g c = λ u at.
    unknown_at c.args.setting.now (g.D.RootRanker.bound c.args.digraphs.now) c.args.unit c.unit-unit.result.now u
    c.in-Unknown.cause
    c.unit-unit.ensures.at c.in-Unknown.is at

pub returns-in-Known-clause-outcome : goal.returns-in-Known-clause-outcome
returns-in-Known-clause-outcome g c =
    let bound = g.D.RootRanker.bound c.args.digraphs.now in
    known_at c.args.setting.now bound c.args.unit c.unit-unit.result.now c.in-Known.sense c.label_ends.result
    c.unit-unit.ensures.at c.in-Known.is
    (subst
    (λ site. IfOk c.label_ends.result (λ outcome. outcome ≡ known_in c.args.setting.now bound site c.in-Known.sense))
    c.ends.ensures.site c.label_ends.ensures.outcome)

pub returns-in-Unknown-clause-cost : goal.returns-in-Unknown-clause-cost
returns-in-Unknown-clause-cost g c = λ u at.
    unknown_rises c.args.setting.now (g.D.RootRanker.bound c.args.digraphs.now) c.args.unit c.unit-unit.result.now u
    c.in-Unknown.cause c.args.steps.now
    c.unit-unit.ensures.at c.in-Unknown.is at

pub returns-in-Known-clause-cost : goal.returns-in-Known-clause-cost
returns-in-Known-clause-cost g c = λ u at.
    let bound = g.D.RootRanker.bound c.args.digraphs.now in
    known_rises c.args.setting.now bound c.args.unit c.unit-unit.result.now u c.in-Known.sense c.args.steps.now
    c.label_ends.new.steps c.unit-unit.ensures.at c.in-Known.is at
    (subst (λ site. Rises c.args.setting.now bound (ends_of site) c.args.steps.now c.label_ends.new.steps)
    c.ends.ensures.site c.label_ends.ensures.cost)

pub label_ends-requires-clause-fit : goal.label_ends-requires-clause-fit
label_ends-requires-clause-fit g c = grind (arith, common_steps)
