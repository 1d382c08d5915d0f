use Rattle.std.proofs.Common.{arith, refl}
use Rattle.std.proofs.lemmas.Grind.{common_steps}
use Rattle.cip_commands.proofs.lemmas.Counting.{job_more}
use Rattle.cip_commands.proofs.trial.next_jobs.Goals as goal

pub loop-before-preserved : goal.loop-before-preserved
loop-before-preserved g c = record {
  jobs = job_more _ c.args.trial.now _ _ _ _ c.in-Ok-push.ensures.items c.trial.view_is refl
      c.loop-before.invariant.jobs;
  many = omega (arith, c.loop-before.invariant.many, c.in-Ok-push.ensures.len);
}

pub loop-before-init : goal.loop-before-init
loop-before-init g c = grind (arith, common_steps)

pub overflow_add-job : goal.overflow_add-job
overflow_add-job g c = grind (arith, common_steps)

pub returns-clause-jobs : goal.returns-clause-jobs
returns-clause-jobs g c = rw c.loop-before.invariant.many c.loop-before.invariant.jobs

pub returns-clause-some : goal.returns-clause-some
returns-clause-some g c = grind (arith, common_steps)

pub returns-clause-within : goal.returns-clause-within
returns-clause-within g c = grind (arith, common_steps)

pub returns-clause-few : goal.returns-clause-few
returns-clause-few g c = grind (arith, common_steps)
