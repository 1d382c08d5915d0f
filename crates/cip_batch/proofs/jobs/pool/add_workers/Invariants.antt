use Rattle.std.proofs.Common.{◌≤◌, ◌-◌, vec_len}
use Rattle.cip_batch.proofs.jobs.pool.add_workers.Given as goal

abbrev pub invariant-loop-alloc : goal.invariant-loop-alloc
invariant-loop-alloc g l = vec_len l.workers ≤ l.fn.count

abbrev pub decreases-loop-alloc : goal.decreases-loop-alloc
decreases-loop-alloc g l = l.fn.count - vec_len l.workers
