use Rattle.std.proofs.Common.{arith, ◌∙◌, [], subst, sym, IfOk}
use Rattle.std.proofs.lemmas.List.{length-set}
use Rattle.std.proofs.lemmas.List.Elements.{All-get_or, All-nil, All-same, All-set}
use Rattle.std.proofs.lemmas.Grind.{common_steps}
use Rattle.cip_batch.specs.Entries.{AreAnswers, IsAnswer}
use Rattle.cip_batch.proofs.jobs.workers.put_each.Goals as goal

pub loop-k-preserved : goal.loop-k-preserved
loop-k-preserved g c =
    let answer = g.J.Job.answer in
    let jobs = c.args.jobs.now in
    record {
      workers = All-set (λ w. IfOk w.answers (λ v. AreAnswers answer jobs v.items)) c.loop-k.workers c.loop-k.k _
          (subst (λ answers. IfOk answers (λ v. AreAnswers answer jobs v.items)) (sym c.replace-entries.ensures.after)
          (All-same (IsAnswer answer jobs) c.new.result.items [] c.new.ensures.items (All-nil (IsAnswer answer jobs))))
          c.loop-k.invariant.workers;
      found = c.put_all.ensures;
      len = length-set c.loop-k.workers c.loop-k.k _ ∙ c.loop-k.invariant.len;
    }

pub put_all-requires-clause-entries : goal.put_all-requires-clause-entries
put_all-requires-clause-entries g c κs within =
    let answer = g.J.Job.answer in
    let jobs = c.args.jobs.now in
    let here = All-get_or (λ w. IfOk w.answers (λ v. AreAnswers answer jobs v.items)) c.loop-k.workers c.loop-k.k
    c.index-workers-k.result (omega arith) c.loop-k.invariant.workers in
    subst (λ answers. IfOk answers (λ v. AreAnswers answer jobs v.items))
    (sym c.replace-entries.ensures.value ∙ c.in-Ok.is) here

pub put_all-requires-clause-found : goal.put_all-requires-clause-found
put_all-requires-clause-found g c κs within = c.loop-k.invariant.found

pub returns-in_default-clause-workers : goal.returns-in_default-clause-workers
returns-in_default-clause-workers g c = grind (arith, common_steps)

pub offset_bounds-workers-k : goal.offset_bounds-workers-k
offset_bounds-workers-k g c = grind (arith, common_steps)
