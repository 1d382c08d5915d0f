use Rattle.std.proofs.Common.{◌≡◌, ◌≤◌, ◌+◌, ◌==◌, length, map, drop}
use Rattle.std.specs.Prelude.{filter}
use Rattle.cip_digraph.specs.units.Allenes.{doubles}
use Rattle.cip_digraph.specs.graph.Graph.{edges_at, other_end}
use Rattle.cip_unit.proofs.axes.double_count.Given as goal

abbrev pub invariant-loop-edge : goal.invariant-loop-edge
invariant-loop-edge l = record {
  sum : l.count + length
      (map (other_end l.atom) (filter (λ edge. edge.order == 2) (drop l.edge-index (edges_at l.graph l.atom))))
      ≡ length (doubles l.graph l.atom);
  few : l.count ≤ l.edge-index;
}
