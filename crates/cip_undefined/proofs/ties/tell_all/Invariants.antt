use Rattle.std.proofs.Common.{◌≡◌, ◌++◌, map, take, drop}
use Rattle.cip_undefined.specs.Ties.{told_unit}
use Rattle.cip_undefined.proofs.ties.tell_all.Given as goal

abbrev pub invariant-loop-unit : goal.invariant-loop-unit
invariant-loop-unit g l = record {
  so_far : l.found ≡ map (told_unit l.setting l.fn.labeller l.fn.free.free) (take l.unit-index l.fn.found)
      ++ drop l.unit-index l.fn.found;
  kept : l.labeller ≡ l.fn.labeller;
  still : l.free ≡ l.fn.free;
}
