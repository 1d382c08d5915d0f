use Rattle.std.proofs.Common.{◌≡◌, ◌++◌, map, take, drop}
use Rattle.cip_digraph.specs.units.Inverted.{inverted_unit}
use Rattle.cip_digraph.proofs.units.invert_all.Given as goal

abbrev pub invariant-loop-unit : goal.invariant-loop-unit
invariant-loop-unit l =
    l.units ≡ map (inverted_unit l.atoms) (take l.unit-index l.fn.units) ++ drop l.unit-index l.fn.units
