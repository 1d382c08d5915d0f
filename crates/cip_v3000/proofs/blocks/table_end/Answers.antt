use Rattle.std.proofs.Common.{arith, ◌∙◌, sym}
use Rattle.std.proofs.lemmas.Grind.{common_steps}
use Rattle.cip_v3000.proofs.lemmas.BlockRows.{table_ends, table_goes_on}
use Rattle.cip_v3000.proofs.blocks.table_end.Goals as goal

pub returns-in-Ok-true : goal.returns-in-Ok-true
returns-in-Ok-true c =
    rw c.next_number.ensures (table_ends c.args.past c.args.lines.now c.loop-place.place _ _ c.loop-place-test.true
    (sym c.in-Ok-true.ensures ∙ c.in-Ok-true.field-0-test) c.loop-place.invariant)

pub loop-place-preserved : goal.loop-place-preserved
loop-place-preserved c =
    table_goes_on c.args.past c.args.lines.now c.loop-place.place _ _ c.loop-place-test.true
    (sym c.in-Ok-false.ensures ∙ c.in-Ok-false.field-0-test) c.loop-place.invariant

pub returns : goal.returns
returns c = grind (arith, common_steps)
