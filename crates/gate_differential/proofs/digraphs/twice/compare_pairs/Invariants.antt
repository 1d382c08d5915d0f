use Rattle.std.proofs.Common.{◌≡◌}
use Rattle.gate_differential.proofs.digraphs.twice.compare_pairs.Given as goal

abbrev pub invariant-loop-second : goal.invariant-loop-second
invariant-loop-second l = l.nearer.bound ≡ l.fn.nearer.bound
