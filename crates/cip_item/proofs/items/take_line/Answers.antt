use Rattle.std.proofs.Common.{arith, sym, ◌∙◌}
use Rattle.std.proofs.lemmas.Grind.{common_steps}
use Rattle.cip_item.proofs.lemmas.Taking.{begin_item, go_on}
use Rattle.cip_item.proofs.items.take_line.Goals as goal

pub returns-in-Ok-clause-items : goal.returns-in-Ok-clause-items
returns-in-Ok-clause-items c = λ contents.
    let s = c.args.splitter.now in
    rw (c.in-Ok.ensures, c.of_line-part.ensures)
    (begin_item s.items s.part s.first s.number c.args.content.now contents
    (sym c.begins_item.ensures ∙ c.if-begins_item.true))

pub returns-in-Ok-close_before-clause-items : goal.returns-in-Ok-close_before-clause-items
returns-in-Ok-close_before-clause-items c = λ contents.
    let s = c.args.splitter.now in
    rw (c.in-Ok-close_before.ensures, c.behind-next.ensures)
    (go_on s.items s.part s.first s.number c.args.content.now contents
    (sym c.begins_item.ensures ∙ c.if-begins_item.false))

pub returns-in-Ok-clause-begun : goal.returns-in-Ok-clause-begun
returns-in-Ok-clause-begun c = grind (arith, common_steps)

pub returns-in-Ok-close_before-clause-begun : goal.returns-in-Ok-close_before-clause-begun
returns-in-Ok-close_before-clause-begun c = grind (arith, common_steps)
