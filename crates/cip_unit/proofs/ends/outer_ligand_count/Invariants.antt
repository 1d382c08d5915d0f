use Rattle.std.proofs.Common.{◌≡◌, ◌≤◌, ◌+◌, length, map, drop}
use Rattle.std.specs.Prelude.{filter, not}
use Rattle.cip_digraph.specs.rings.Alternating.{is_in}
use Rattle.cip_digraph.specs.units.DoubleBonds.{outer_neighbours}
use Rattle.cip_digraph.specs.graph.Graph.{edges_at, other_end}
use Rattle.cip_unit.proofs.ends.outer_ligand_count.Given as goal

abbrev pub invariant-loop-edge : goal.invariant-loop-edge
invariant-loop-edge l = record {
  sum : l.count + length
      (filter (λ other. not (is_in other l.unit))
      (map (other_end l.atom) (drop l.edge-index (edges_at l.graph l.atom))))
      ≡ length (outer_neighbours l.graph l.unit l.atom);
  few : l.count ≤ l.edge-index;
}
