use Rattle.std.proofs.Common.{◌≡◌, ◌++◌, ◌-◌, length, replicate}
use Rattle.cip_text.proofs.format.push_right_aligned.Given as goal

abbrev pub invariant-loop-column : goal.invariant-loop-column
invariant-loop-column l =
    l.line.items ++ replicate (l.width - l.column) 32 ≡ l.fn.line.items ++ replicate (l.width - length l.text) 32
