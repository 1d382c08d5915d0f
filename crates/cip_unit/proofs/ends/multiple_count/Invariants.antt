use Rattle.std.proofs.Common.{◌≡◌, ◌≤◌, ◌+◌, length, drop}
use Rattle.std.specs.Prelude.{filter, nat_le}
use Rattle.cip_digraph.specs.units.DoubleBonds.{multiples}
use Rattle.cip_digraph.specs.graph.Graph.{edges_at}
use Rattle.cip_unit.proofs.ends.multiple_count.Given as goal

abbrev pub invariant-loop-edge : goal.invariant-loop-edge
invariant-loop-edge l = record {
  sum : l.count + length (filter (λ edge. nat_le 2 edge.order) (drop l.edge-index (edges_at l.graph l.atom)))
      ≡ length (multiples l.graph l.atom);
  few : l.count ≤ l.edge-index;
}
