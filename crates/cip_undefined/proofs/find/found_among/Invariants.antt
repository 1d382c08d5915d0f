use Rattle.std.proofs.Common.{◌≡◌, ◌++◌, drop}
use Rattle.std.specs.List.{flat_map}
use Rattle.cip_undefined.specs.UndefinedUnits.{found_at}
use Rattle.cip_undefined.proofs.find.found_among.Given as goal

abbrev pub invariant-loop-unit : goal.invariant-loop-unit
invariant-loop-unit g l = record {
  so_far : l.found.items ++ flat_map (found_at l.setting l.fn.labeller) (drop l.unit-index l.units)
      ≡ flat_map (found_at l.setting l.fn.labeller) l.units;
  kept : l.labeller ≡ l.fn.labeller;
}
