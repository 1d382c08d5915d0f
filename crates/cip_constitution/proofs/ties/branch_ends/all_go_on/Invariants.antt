use Rattle.std.proofs.Common.{◌≡◌, ◌<◌, ℕ, true}
use Rattle.cip_partition.specs.Parting.{has_flag}
use Rattle.cip_constitution.specs.Trials.{IsElsewhere}
use Rattle.cip_constitution.proofs.ties.branch_ends.all_go_on.Given as goal

abbrev pub invariant-loop-branch : goal.invariant-loop-branch
invariant-loop-branch l = record {
  elsewhere : (k : ℕ) → k < l.branch → has_flag l.trial.branches.now.unresolved k ≡ true → IsElsewhere l.trial k;
}
