use Rattle.std.proofs.Common.{◌∙◌, subst, false}
use Rattle.cip_v3000.specs.Tables.{seen_table}
use Rattle.cip_stereogroups.specs.Collections.{groups_from, groups_of}
use Rattle.cip_stereogroups.specs.Reading.{Gives}
use Rattle.cip_stereogroups.proofs.lemmas.EndedLines.{ended_gives}
use Rattle.cip_stereogroups.proofs.collection_blocks.groups_of.Goals as goal

pub returns : goal.returns
unfolding groups_of
returns c =
    let groups = c.read_lines-read.new.found.groups in
    ended_gives groups (groups_of (seen_table c.args.table.now)) c.read_lines-read.result c.ended.result
    c.ended.ensures
    (subst (λ requested. Gives (λ _. groups) c.read_lines-read.result requested)
    (λ i. groups_from ((c.in-Ok.ensures ∙ c.deref.ensures.value) i)
    (record { inside = false; taken = c.new.ensures i; groups = c.new-2.ensures i }) (c.rest.ensures i))
    c.read_lines-read.ensures)
