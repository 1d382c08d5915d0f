use Rattle.std.proofs.Common.{arith}
use Rattle.std.proofs.lemmas.Grind.{common_steps}
use Rattle.cip_unit.proofs.ends.has_drawn_outside.Goals as goal

pub returns-then-other-drawn : goal.returns-then-other-drawn
returns-then-other-drawn c = grind (arith, common_steps)

pub returns : goal.returns
returns c = grind (arith, common_steps)

pub loop-edge-preserved : goal.loop-edge-preserved
loop-edge-preserved c = grind (arith, common_steps)
