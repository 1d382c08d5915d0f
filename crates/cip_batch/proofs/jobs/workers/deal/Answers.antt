use Rattle.std.proofs.Common.{arith, ◌<◌, ◌+◌, ◌∙◌, ap, length, length-append, subst}
use Rattle.std.proofs.lemmas.List.{length-set}
use Rattle.std.proofs.lemmas.List.Elements.{All-push, All-same}
use Rattle.cip_batch.proofs.jobs.workers.deal.Goals as goal

pub loop-job-preserved : goal.loop-job-preserved
loop-job-preserved g c =
    let owner = c.least_place-owner.result in
    let within = subst (λ n. owner < n) (ap length c.deref.ensures.value ∙ c.loop-job.invariant.loads)
    c.least_place-owner.ensures.within in
    record {
      loads = length-set c.loop-job.loads.items owner c.saturating_add.result ∙ c.loop-job.invariant.loads;
      all = ap length c.push_reserved.ensures.items ∙ length-append c.loop-job.owners.items _
          ∙ ap (λ n. n + 1) c.loop-job.invariant.all;
      each = All-same (λ load. load < c.args.workers) _ _ c.push_reserved.ensures.items
          (All-push (λ load. load < c.args.workers) c.loop-job.owners.items owner c.loop-job.invariant.each within);
      count = omega (arith, c.push_reserved.ensures.len, c.loop-job.invariant.count);
      room = omega (arith, c.push_reserved.ensures.capacity, c.loop-job.invariant.room);
    }

pub returns-clause-each : goal.returns-clause-each
returns-clause-each g c = c.loop-job.invariant.each

pub returns-clause-all : goal.returns-clause-all
returns-clause-all g c = omega arith
