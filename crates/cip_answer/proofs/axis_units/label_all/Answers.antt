use Rattle.std.proofs.Common.{◌++◌, ◌∷◌, [], ◌∙◌, ℕ, ap, map, sym, take, arith}
use Rattle.std.proofs.lemmas.List.{map_more, take_all}
use Rattle.cip_digraph.specs.graph.Graph.{Graph}
use Rattle.cip_axis.specs.FurtherOutcomes.{further_outcome}
use Rattle.cip_answer.specs.FurtherAnswers.{further_answer}
use Rattle.cip_answer.proofs.lemmas.UnitLists.{room_left}
use Rattle.std.proofs.lemmas.Grind.{common_steps}
use Rattle.cip_answer.proofs.axis_units.label_all.Goals as goal

pub loop-unit-preserved : goal.loop-unit-preserved
loop-unit-preserved g c =
    let setting = c.args.setting.now in
    let bound = c.args.labeller.now in
    let unit = c.unit-item.result in
    record {
      so_far = c.in-Ok-push.ensures.added
          ∙ (λ i. c.loop-unit.invariant.so_far i ++ record {
            name = c.further_name.ensures i;
            site = c.to_site.ensures i;
            drawn = (c.drawn.ensures.value ∙ ap (λ (graph : Graph). graph.drawn) c.graph.ensures.value) i;
            outcome = (c.in-Ok.ensures.outcome
                ∙ ap (λ (b : ℕ). further_outcome setting b unit) c.loop-unit.invariant.kept) i;
          } ∷ [])
          ∙ ap (λ answer. map (further_answer setting bound) (take c.loop-unit.unit-index c.args.units.now) ++ answer ∷ [])
          (ap (further_answer setting bound) c.unit-item.is)
          ∙ sym (map_more (further_answer setting bound) c.args.units.now c.loop-unit.unit-index unit c.loop-unit-test.true);
      kept = c.in-Ok.ensures.kept ∙ c.loop-unit.invariant.kept;
    }

pub push-requires : goal.push-requires
push-requires g c =
    room_left (further_answer c.args.setting.now c.args.labeller.now) c.loop-unit.answers c.args.units.now
    c.loop-unit.unit-index c.loop-unit.invariant.so_far c.loop-unit-test.true c.requires.few

pub returns-clause-answers : goal.returns-clause-answers
returns-clause-answers g c =
    c.loop-unit.invariant.so_far
    ∙ ap (map (further_answer c.args.setting.now c.args.labeller.now))
    (take_all c.loop-unit.unit-index c.args.units.now c.loop-unit-test.false)

pub returns-in_default-push-clause-kept : goal.returns-in_default-push-clause-kept
returns-in_default-push-clause-kept g c = grind (arith, common_steps)

pub label_further-requires : goal.label_further-requires
label_further-requires g c = grind (arith, common_steps)
