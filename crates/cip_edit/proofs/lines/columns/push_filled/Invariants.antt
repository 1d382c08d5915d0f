use Rattle.std.proofs.Common.{◌≡◌, ◌++◌, ◌-◌, drop}
use Rattle.cip_edit.specs.Columns.{filled}
use Rattle.cip_edit.proofs.lines.columns.push_filled.Given as goal

abbrev pub invariant-loop-column : goal.invariant-loop-column
invariant-loop-column l =
    l.text.items ++ filled (l.columns - l.column) (drop l.column l.line) ≡ l.fn.text.items ++ filled l.columns l.line
