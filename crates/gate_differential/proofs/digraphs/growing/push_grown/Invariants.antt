use Rattle.cip_arena.specs.Growth.{Holds}
use Rattle.gate_differential.proofs.digraphs.growing.push_grown.Given as goal

abbrev pub invariant-loop : goal.invariant-loop
invariant-loop g l = record { holds : Holds l.drawn.graph l.drawn.positions l.arena }
