-- Tables that have room for the same digraphs. Own.
use Rattle.std.specs.Prelude.{◌≡◌, ◌<◌, ◌≤◌}
use Rattle.gate_differential.specs.declared.tables.Tables.{Tables}

pub record HaveRoom (tables : Tables) : Type 0 where
  pub some : 0 < tables.arena.bound
  pub work : tables.arena.bound ≤ tables.work.bound
  pub nearer : tables.arena.bound ≤ tables.nearer.bound
