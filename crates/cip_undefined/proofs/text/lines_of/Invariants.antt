use Rattle.std.proofs.Common.{◌≡◌, ◌++◌, drop}
use Rattle.std.specs.List.{flat_map}
use Rattle.cip_undefined.specs.Texts.{undefined_line}
use Rattle.cip_undefined.proofs.text.lines_of.Given as goal

abbrev pub invariant-loop-unit : goal.invariant-loop-unit
invariant-loop-unit l =
    l.text.items ++ flat_map undefined_line (drop l.unit-index l.units) ≡ flat_map undefined_line l.units
