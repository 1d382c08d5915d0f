use Rattle.gate_differential.specs.Tables.{HaveRoom}
use Rattle.gate_differential.proofs.digraphs.roots.compare_each.Given as goal

abbrev pub invariant-loop-root : goal.invariant-loop-root
invariant-loop-root g l = HaveRoom l.tables
