use Rattle.std.proofs.Common.{rules, ◌<◌, [], length}
use Rattle.cip_item.proofs.lemmas.Gaps.{last_tells}
use Rattle.cip_item.proofs.insertion.needs_gap.Goals as goal

pub returns-then-not-is_blank : goal.returns-then-not-is_blank
returns-then-not-is_blank c =
    let some : 0 < length c.args.contents.now = search rules in
    rw (last_tells c.args.contents.now (record { ref_ptr = (0, 0); now = [] }) some) (search rules)

pub returns-else-not-is_blank : goal.returns-else-not-is_blank
returns-else-not-is_blank c =
    let some : 0 < length c.args.contents.now = search rules in
    rw (last_tells c.args.contents.now (record { ref_ptr = (0, 0); now = [] }) some) (search rules)
