use Rattle.std.proofs.Common.{◌∙◌, arith}
use Rattle.cip_branches.proofs.lemmas.refined.Noted.{note_next, all_noted}
use Rattle.cip_branches.proofs.ranking.pass.note_places.Goals as goal

pub loop-row-preserved : goal.loop-row-preserved
loop-row-preserved c =
    let order = c.args.order.now in
    let place = c.place-place.ensures.place in
    let len = c.loop-row.auto.before ∙ c.requires.len in
    record {
      noted = rw (c.number.ensures, place) (note_next order.rows order.numbers c.args.to c.loop-row.before c.loop-row.row
          (omega (arith, place, c.place-place.ensures.below, len)) c.loop-row.invariant.noted);
    }

pub returns : goal.returns
returns c =
    all_noted c.args.order.now.rows c.args.order.now.numbers c.args.to c.loop-row.before c.loop-row.row
    c.loop-row-test.false (c.loop-row.auto.before ∙ c.requires.len) c.loop-row.invariant.noted
