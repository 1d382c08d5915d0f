use Rattle.std.proofs.Common.{◌≡◌, ◌++◌}
use Rattle.std.specs.Prelude.{flat_map}
use Rattle.std.specs.List.{range_with_len}
use Rattle.cip_digraph.specs.units.DoubleBonds.{bond_sites}
use Rattle.cip_unit.specs.Sites.{units_at}
use Rattle.cip_unit.proofs.stereo_units.push_all_bonds.Given as goal

abbrev pub invariant-loop-atom : goal.invariant-loop-atom
invariant-loop-atom l =
    l.units ≡ l.initial.units
    ++ units_at l.sketch.molecule.now
    (flat_map (bond_sites l.sketch.graph.now l.sketch.positions.now) (range_with_len 0 l.atom))
