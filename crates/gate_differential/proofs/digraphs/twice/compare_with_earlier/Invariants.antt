use Rattle.std.proofs.Common.{◌≡◌}
use Rattle.gate_differential.proofs.digraphs.twice.compare_with_earlier.Given as goal

abbrev pub invariant-loop-first : goal.invariant-loop-first
invariant-loop-first l = l.nearer.bound ≡ l.fn.nearer.bound
