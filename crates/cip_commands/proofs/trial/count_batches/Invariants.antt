use Rattle.std.proofs.Common.{◌≡◌, ◌≤◌, ◌-◌, length}
use Rattle.cip_commands.specs.Trying.{answers_to, counted}
use Rattle.cip_commands.proofs.trial.count_batches.Given as goal

abbrev pub invariant-loop-done : goal.invariant-loop-done
invariant-loop-done g l = record {
  so_far : l.count ≡ counted (answers_to l.trial.series l.trial.labelling l.done);
  records : l.count.counts.records ≡ l.done;
  within : l.done ≤ l.trial.series.records;
  clerks : length l.clerks ≡ l.pool.workers;
}

abbrev pub decreases-loop-done : goal.decreases-loop-done
decreases-loop-done g l = l.trial.series.records - l.done
