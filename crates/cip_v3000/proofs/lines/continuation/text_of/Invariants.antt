use Rattle.std.proofs.Common.{◌≡◌, ◌++◌, drop}
use Rattle.std.specs.List.{flat_map}
use Rattle.cip_text.specs.Slices.{texts}
use Rattle.cip_v3000.specs.JoinedLines.{part_of}
use Rattle.cip_v3000.proofs.lines.continuation.text_of.Given as goal

abbrev pub invariant-loop-part : goal.invariant-loop-part
invariant-loop-part l = l.text.items ++ flat_map part_of (texts (drop l.part-index l.parts))
    ≡ flat_map part_of (texts l.parts)
