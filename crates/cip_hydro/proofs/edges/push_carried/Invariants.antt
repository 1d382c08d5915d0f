use Rattle.std.proofs.Common.{◌≡◌, ◌+◌, ◌++◌, replicate, vec_capacity, vec_len}
use Rattle.cip_digraph.specs.graph.DrawnGraph.{hydrogen_edges}
use Rattle.cip_hydro.proofs.edges.push_carried.Given as goal

abbrev pub invariant-loop-place : goal.invariant-loop-place
invariant-loop-place l = record {
  value : l.edges.items ≡ l.initial.edges.items ++ hydrogen_edges l.first (replicate l.place l.carrier);
  count : vec_len l.edges ≡ vec_len l.initial.edges + l.place;
  room : vec_capacity l.edges ≡ vec_capacity l.initial.edges;
}
