use Rattle.std.proofs.Common.{◌≡◌, ◌+◌, ◌++◌, replicate, vec_capacity, vec_len}
use Rattle.cip_digraph.specs.graph.DrawnGraph.{hydrogen}
use Rattle.cip_hydro.proofs.vertices.push_hydrogens.Given as goal

abbrev pub invariant-loop : goal.invariant-loop
invariant-loop l = record {
  value : l.vertices.items ≡ l.initial.vertices.items ++ replicate l.counter hydrogen;
  count : vec_len l.vertices ≡ vec_len l.initial.vertices + l.counter;
  room : vec_capacity l.vertices ≡ vec_capacity l.initial.vertices;
}
