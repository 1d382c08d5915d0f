use Rattle.std.proofs.Common.{◌≡◌, ◌≤◌, ◌+◌, ◌++◌, drop, length, vec_capacity, vec_len}
use Rattle.cip_digraph.specs.graph.DrawnGraph.{hydrogen_edges}
use Rattle.cip_hydro.specs.Carriers.{carriers_from}
use Rattle.cip_hydro.proofs.edges.push_hydrogens.Given as goal

abbrev pub invariant-loop-atom : goal.invariant-loop-atom
invariant-loop-atom l = record {
  edges : l.edges.items ++ hydrogen_edges l.next (carriers_from l.atom (drop l.atom l.surroundings))
      ≡ l.initial.edges.items ++ hydrogen_edges l.first (carriers_from 0 l.surroundings);
  count : l.next + length (carriers_from l.atom (drop l.atom l.surroundings))
      ≡ l.first + length (carriers_from 0 l.surroundings);
  room : vec_len l.edges + length (carriers_from l.atom (drop l.atom l.surroundings)) ≤ vec_capacity l.edges;
}
