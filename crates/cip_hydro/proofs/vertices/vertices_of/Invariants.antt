use Rattle.std.proofs.Common.{◌≡◌, ◌≤◌, ◌+◌, length, map, vec_capacity, vec_len}
use Rattle.std.specs.List.{range_with_len}
use Rattle.cip_digraph.specs.graph.DrawnGraph.{atom_vertex}
use Rattle.cip_hydro.proofs.vertices.vertices_of.Given as goal

abbrev pub invariant-loop-number : goal.invariant-loop-number
invariant-loop-number l = record {
  value : l.vertices.items ≡ map (atom_vertex l.molecule) (range_with_len 0 l.number);
  count : vec_len l.vertices ≡ l.number;
  room : length l.surroundings + l.further ≤ vec_capacity l.vertices;
}
