use Rattle.std.proofs.Common.{arith, ◌∙◌}
use Rattle.std.proofs.lemmas.Grind.{common_steps}
use Rattle.cip_text.specs.Writing.{right}
use Rattle.cip_text.proofs.lemmas.Spaces.{one_space}
use Rattle.cip_text.proofs.format.push_right_aligned.Goals as goal

pub loop-column-preserved : goal.loop-column-preserved
loop-column-preserved c =
    rw c.in-Ok.ensures.items
    (one_space c.loop-column.line.items c.loop-column.column c.args.width c.loop-column-test.true
    ∙ c.loop-column.invariant)

pub returns : goal.returns
unfolding right
returns c = grind (arith, common_steps)
