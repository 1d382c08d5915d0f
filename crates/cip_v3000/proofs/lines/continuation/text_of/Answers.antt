use Rattle.std.proofs.Common.{◌∙◌}
use Rattle.cip_v3000.proofs.lemmas.Joined.{only_part, part_joined, parts_joined}
use Rattle.cip_v3000.proofs.lines.continuation.text_of.Goals as goal

pub returns-in-len1 : goal.returns-in-len1
returns-in-len1 c =
    c.part_of.ensures ∙ only_part c.args.line.now.parts.now _ c.in-len1.len_at_least c.in-len1.len_below

pub loop-part-preserved : goal.loop-part-preserved
loop-part-preserved c =
    rw c.in-Ok.ensures.items (part_joined c.loop-part.text.items c.args.line.now.parts.now
    c.loop-part.part-index _ c.part_of-in-loop-part.result.now _ c.loop-part-test.true c.part_of-in-loop-part.ensures
    c.loop-part.invariant)

pub returns-after-loop-part : goal.returns-after-loop-part
returns-after-loop-part c =
    parts_joined c.loop-part.text.items c.args.line.now.parts.now c.loop-part.part-index _ c.loop-part-test.false
    c.loop-part.invariant
