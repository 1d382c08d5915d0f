use Rattle.std.proofs.Common.{◌≡◌, ◌≤◌, length}
use Rattle.cip_arena.specs.Growth.{Holds}
use Rattle.gate_differential.specs.Tables.{HaveRoom}
use Rattle.gate_differential.proofs.digraphs.roots.compare_grown.Given as goal

abbrev pub invariant-loop-sphere : goal.invariant-loop-sphere
invariant-loop-sphere g l = record {
  holds : Holds l.drawn.graph l.drawn.positions l.tables.arena;
  root : l.tables.arena.root ≡ l.fn.root;
  fits : length l.tables.arena.nodes ≤ l.tables.arena.bound;
  room : HaveRoom l.tables;
}
