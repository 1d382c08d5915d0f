use Rattle.std.proofs.Common.{◌≤◌, ◌-◌, length}
use Rattle.cip_commands.proofs.trial.new_workers.Given as goal

abbrev pub invariant-loop-alloc : goal.invariant-loop-alloc
invariant-loop-alloc g l = length l.clerks.items ≤ l.workers

abbrev pub decreases-loop-alloc : goal.decreases-loop-alloc
decreases-loop-alloc g l = l.workers - length l.clerks.items
