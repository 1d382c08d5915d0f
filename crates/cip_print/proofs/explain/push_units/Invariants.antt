use Rattle.std.proofs.Common.{◌≡◌, ◌++◌, drop}
use Rattle.cip_print.specs.Explaining.{told_lines}
use Rattle.cip_print.proofs.explain.push_units.Given as goal

abbrev pub invariant-loop-place : goal.invariant-loop-place
invariant-loop-place l =
    l.text.items ++ told_lines (drop l.place l.units) ≡ l.fn.text.items ++ told_lines l.units
