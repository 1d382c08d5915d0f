use Rattle.std.proofs.Common.{◌≡◌, map, take, vec_capacity, vec_len}
use Rattle.cip_digraph.specs.graph.DrawnGraph.{bond_edge}
use Rattle.cip_hydro.proofs.edges.push_bonds.Given as goal

abbrev pub invariant-loop-bond : goal.invariant-loop-bond
invariant-loop-bond l = record {
  value : l.edges.items ≡ map (bond_edge l.molecule) (take l.bond-index l.molecule.bonds);
  count : vec_len l.edges ≡ l.bond-index;
  room : vec_capacity l.edges ≡ vec_capacity l.initial.edges;
}
