use Rattle.std.proofs.Common.{◌≡◌, ◌<◌, ◌≤◌, ◌-◌, ℕ}
use Rattle.cip_partition.specs.Rows.{number_in}
use Rattle.cip_partition.proofs.partition.Partition.class_end.Given as goal

abbrev pub invariant-loop-past : goal.invariant-loop-past
invariant-loop-past l = record {
  ahead : l.first < l.past;
  within : l.past ≤ l.to;
  each : (k : ℕ) → l.first ≤ k → k < l.past → number_in l.self.rows l.self.numbers k ≡ l.number;
}

abbrev pub decreases-loop-past : goal.decreases-loop-past
decreases-loop-past l = l.to - l.past
