use Rattle.std.proofs.Common.{take}
use Rattle.cip_aux.specs.UnitIndex.{AreRows}
use Rattle.cip_aux.proofs.units.unit_index.UnitIndex.new.Given as goal

abbrev pub invariant-loop-place : goal.invariant-loop-place
invariant-loop-place l = AreRows l.units (take l.place l.units) l.rows
