use Rattle.std.proofs.Common.{◌++◌, ◌∷◌, [], ◌∙◌, ap, arith}
use Rattle.cip_batch.proofs.lemmas.InOrder.{all_in_order, one_more}
use Rattle.cip_batch.proofs.jobs.workers.complete.Goals as goal

pub loop-place-preserved : goal.loop-place-preserved
loop-place-preserved g c = record {
  found = c.answer_at.ensures.found;
  answers = c.push_reserved.ensures.items ∙ ap (λ found. found ++ c.in-Ok-answer_at.answer ∷ [])
      c.loop-place.invariant.answers
      ∙ one_more g.J.Job.answer c.args.jobs.now c.loop-place.place c.in-Ok-answer_at.answer c.loop-place-test.true
      c.in-Ok-answer_at.ensures.answer;
  count = omega (arith, c.push_reserved.ensures.len, c.loop-place.invariant.count);
  room = omega (arith, c.push_reserved.ensures.capacity, c.loop-place.invariant.room);
}

pub returns : goal.returns
returns g c =
    all_in_order g.J.Job.answer c.args.jobs.now c.loop-place.answers.items c.loop-place.place (omega arith)
    c.loop-place.invariant.answers

pub answer_at-requires-clause-found : goal.answer_at-requires-clause-found
answer_at-requires-clause-found g c κs within = c.loop-place.invariant.found

pub answer_at-requires-clause-place : goal.answer_at-requires-clause-place
answer_at-requires-clause-place g c κs within = c.loop-place-test.true
