use Rattle.std.proofs.Common.{◌≡◌, ◌++◌, drop}
use Rattle.std.specs.Prelude.{flat_map}
use Rattle.cip_digraph.specs.units.DoubleBonds.{bond_sites}
use Rattle.cip_digraph.specs.graph.Graph.{edges_at}
use Rattle.cip_unit.specs.Sites.{one_bond_site, units_at}
use Rattle.cip_unit.proofs.bonds.push_bonds.Given as goal

abbrev pub invariant-loop-edge : goal.invariant-loop-edge
invariant-loop-edge l =
    l.units ++ units_at l.sketch.molecule.now
    (flat_map (one_bond_site l.sketch.graph.now l.sketch.positions.now l.a)
    (drop l.edge-index (edges_at l.sketch.graph.now l.a)))
    ≡ l.initial.units ++ units_at l.sketch.molecule.now (bond_sites l.sketch.graph.now l.sketch.positions.now l.a)
