use Rattle.std.proofs.Common.{◌≡◌, ◌++◌, drop, flat_map}
use Rattle.std.specs.Prelude.{string_bytes}
use Rattle.cip_stereogroups.specs.Texts.{line_text}
use Rattle.cip_stereogroups.proofs.group_text.lines_text.Given as goal

abbrev pub invariant-loop-line : goal.invariant-loop-line
invariant-loop-line l =
    string_bytes l.text ++ flat_map line_text (drop l.line-index l.lines) ≡ flat_map line_text l.lines
