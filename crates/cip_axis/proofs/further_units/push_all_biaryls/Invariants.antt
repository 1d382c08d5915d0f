use Rattle.std.proofs.Common.{◌≡◌, ◌++◌}
use Rattle.std.specs.Prelude.{flat_map}
use Rattle.std.specs.List.{range_with_len}
use Rattle.cip_axis.specs.Further.{biaryls_of}
use Rattle.cip_axis.proofs.further_units.push_all_biaryls.Given as goal

abbrev pub invariant-loop-atom : goal.invariant-loop-atom
invariant-loop-atom l =
    let source = l.source in
    l.units ≡ l.initial.units
    ++ flat_map (biaryls_of source.molecule.now source.graph.now source.positions.now) (range_with_len 0 l.atom)
