use Rattle.std.proofs.Common.{◌≡◌, drop, map}
use Rattle.cip_v3000.specs.Joining.{seen}
use Rattle.cip_stereogroups.specs.Collections.{groups_from}
use Rattle.cip_stereogroups.proofs.collection_blocks.read_lines.Given as goal

abbrev pub invariant-loop-line : goal.invariant-loop-line
invariant-loop-line l =
    groups_from l.index l.found (map seen (drop l.line-index l.lines))
    ≡ groups_from l.index l.fn.found (map seen l.lines)
