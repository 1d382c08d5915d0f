use Rattle.std.proofs.Common.{arith}
use Rattle.std.proofs.lemmas.Grind.{common_steps}
use Rattle.cip_mancude.proofs.alternating.Alternation.is_single.Goals as goal

pub returns : goal.returns
returns c = grind (arith, common_steps)

pub returns-then-other_end-other : goal.returns-then-other_end-other
returns-then-other_end-other c = grind (arith, common_steps)

pub loop-edge-preserved : goal.loop-edge-preserved
loop-edge-preserved c = grind (arith, common_steps)
