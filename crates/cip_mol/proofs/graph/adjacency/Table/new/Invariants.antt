use Rattle.std.proofs.Common.{◌≡◌, ◌≤◌, [], replicate, vec_capacity, vec_len}
use Rattle.cip_mol.proofs.graph.adjacency.Table.new.Given as goal

abbrev pub invariant-loop : goal.invariant-loop
invariant-loop l = record {
  rows : l.rows.items ≡ replicate l.counter (record { neighbours = []; bonds = [] });
  count : vec_len l.rows ≡ l.counter;
  room : l.atoms ≤ vec_capacity l.rows;
}
