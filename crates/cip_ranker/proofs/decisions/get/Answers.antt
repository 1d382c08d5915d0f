use Rattle.std.proofs.Common.{arith}
use Rattle.std.proofs.lemmas.Grind.{common_steps}
use Rattle.cip_ranker.proofs.decisions.get.Goals as goal

pub loop-one-preserved : goal.loop-one-preserved
loop-one-preserved c = grind (arith, common_steps)

pub returns-then-one-a-2 : goal.returns-then-one-a-2
returns-then-one-a-2 c = grind (arith, common_steps)

pub returns-then-one-b : goal.returns-then-one-b
returns-then-one-b c = grind (arith, common_steps)
