use Rattle.std.proofs.Common.{◌≡◌, ◌++◌, drop}
use Rattle.std.specs.List.{flat_map}
use Rattle.cip_c.specs.Texts.{ended_line}
use Rattle.cip_c.proofs.labeller.ended_lines.Given as goal

abbrev pub invariant-loop-line : goal.invariant-loop-line
invariant-loop-line l =
    l.text.items ++ flat_map ended_line (drop l.line-index l.lines) ≡ flat_map ended_line l.lines
