use Rattle.std.proofs.Common.{◌≡◌, take}
use Rattle.cip_digraph.proofs.units.Units.copy.Given as goal

abbrev pub invariant-loop-unit : goal.invariant-loop-unit
invariant-loop-unit l = l.copy ≡ take l.unit-index l.self
