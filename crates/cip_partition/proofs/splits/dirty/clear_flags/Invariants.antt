use Rattle.std.proofs.Common.{◌≡◌, ◌<◌, ◌≤◌, ℕ, true, false}
use Rattle.cip_partition.specs.Parting.{has_flag}
use Rattle.cip_partition.proofs.splits.dirty.clear_flags.Given as goal

abbrev pub invariant-loop-row : goal.invariant-loop-row
invariant-loop-row l = record {
  cleared : (k : ℕ) → l.from ≤ k → k < l.row → has_flag l.flags k ≡ false;
  before : (k : ℕ) → k < l.from → has_flag l.flags k ≡ has_flag l.fn.flags k;
  behind : (k : ℕ) → l.to ≤ k → has_flag l.flags k ≡ has_flag l.fn.flags k;
  fewer : (k : ℕ) → has_flag l.flags k ≡ true → has_flag l.fn.flags k ≡ true;
}
