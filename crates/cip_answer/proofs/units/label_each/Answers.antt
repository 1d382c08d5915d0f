use Rattle.std.proofs.Common.{◌∙◌, ap, map, subst, ◌<◌, ◌≤◌, length, arith}
use Rattle.std.proofs.lemmas.List.{take_all}
use Rattle.cip_digraph.specs.graph.Graph.{Graph}
use Rattle.cip_answer.specs.Answers.{unit_answer}
use Rattle.cip_answer.specs.SymmetryLabels.{AreFound}
use Rattle.cip_answer.proofs.lemmas.UnitLists.{few_answers, has_room, next_unit}
use Rattle.std.proofs.lemmas.Grind.{common_steps}
use Rattle.cip_answer.proofs.units.label_each.Goals as goal

pub push-requires : goal.push-requires
push-requires g c =
    has_room c.args.setting.now c.args.labeller.now c.loop-place.answers c.loop-place.place
    c.loop-place.invariant.so_far
    (subst (λ units. c.loop-place.place < length units) c.loop-place.invariant.all c.loop-place-test.true)
    c.requires.few

pub loop-place-preserved : goal.loop-place-preserved
loop-place-preserved g c = record {
  so_far =
      c.in-Ok-push.ensures.added
      ∙ next_unit c.args.setting.now c.args.labeller.now c.loop-place.labeller c.loop-place.answers
      c.loop-place.place c.as_slice-units.result.now c.index-units-place.result c.name_of.result c.copy.result
      c.drawn.result
      c.in-Ok.outcome c.loop-place.invariant.so_far
      (subst (λ units. c.loop-place.place < length units) c.loop-place.invariant.all c.loop-place-test.true)
      c.loop-place.invariant.all c.index-units-place.is c.name_of.ensures c.copy.ensures
      (c.drawn.ensures.value ∙ ap (λ (graph : Graph). graph.drawn) c.graph.ensures.value) c.loop-place.invariant.kept
      c.in-Ok.ensures.outcome;
  all = c.loop-place.invariant.all;
  kept = c.label_or_reuse.ensures.kept ∙ c.loop-place.invariant.kept;
  found =
      subst (λ bound. AreFound c.args.setting.now bound c.label_or_reuse.new.images) c.loop-place.invariant.kept
      c.in-Ok.ensures.found;
}

pub label_or_reuse-requires-clause-place : goal.label_or_reuse-requires-clause-place
label_or_reuse-requires-clause-place g c =
    subst (λ units. c.loop-place.place < length units) c.loop-place.invariant.all c.loop-place-test.true

pub returns-clause-answers : goal.returns-clause-answers
returns-clause-answers g c =
    let setting = c.args.setting.now in
    c.loop-place.invariant.so_far
    ∙ ap (map (unit_answer setting.rules c.args.labeller.now setting.graph setting.positions setting.units))
    (take_all c.loop-place.place setting.units
    (subst (λ units. length units ≤ c.loop-place.place) c.loop-place.invariant.all c.loop-place-test.false))

pub returns-clause-few : goal.returns-clause-few
returns-clause-few g c =
    let setting = c.args.setting.now in
    few_answers setting c.args.labeller.now c.loop-place.answers
    (c.loop-place.invariant.so_far
    ∙ ap (map (unit_answer setting.rules c.args.labeller.now setting.graph setting.positions setting.units))
    (take_all c.loop-place.place setting.units
    (subst (λ units. length units ≤ c.loop-place.place) c.loop-place.invariant.all c.loop-place-test.false)))
    c.requires.few

pub loop-place-init : goal.loop-place-init
loop-place-init g c = grind (arith, common_steps)

pub returns-in_default-clause-kept : goal.returns-in_default-clause-kept
returns-in_default-clause-kept g c = grind (arith, common_steps)
