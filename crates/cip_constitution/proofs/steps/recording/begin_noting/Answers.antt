use Rattle.std.proofs.Common.{◌≡◌, arith, map}
use Rattle.std.proofs.lemmas.Grind.{common_steps}
use Rattle.cip_constitution.specs.Noting.{branch_at, asked_by}
use Rattle.cip_constitution.proofs.lemmas.followed.Pairs.{notes_first}
use Rattle.cip_constitution.proofs.steps.recording.begin_noting.Goals as goal

pub loop-pair-preserved : goal.loop-pair-preserved
loop-pair-preserved c = grind (arith, common_steps)

pub push_reserved-requires : goal.push_reserved-requires
push_reserved-requires c = grind (arith, common_steps)

pub returns-clause-noted : goal.returns-clause-noted
returns-clause-noted c setting grown one =
    let noted = c.loop-pair.noted.items in
    let requested : noted ≡ map (asked_by (branch_at c.args.arena.now.nodes)) c.args.pairs.now =
    grind (arith, common_steps) in
    notes_first setting.graph setting.positions c.args.arena.now grown.holds one grown.sound grown.fits grown.last
    c.args.pairs.now noted requested
