use Rattle.std.proofs.Common.{◌≡◌}
use Rattle.cip_arena.specs.Growth.{Holds}
use Rattle.gate_differential.proofs.digraphs.inside.grow_whole.Given as goal

abbrev pub invariant-loop : goal.invariant-loop
invariant-loop g l = record {
  holds : Holds l.drawn.graph l.drawn.positions l.arena;
  root : l.arena.root ≡ l.fn.arena.root;
}
