use Rattle.std.proofs.Common.{arith}
use Rattle.std.proofs.lemmas.Grind.{common_steps}
use Rattle.cip_orient.proofs.pairs.keeps_for_a_second.Goals as goal

pub loop-second-preserved : goal.loop-second-preserved
loop-second-preserved c = grind (arith, common_steps)

pub returns-then-has_two_firsts_alike : goal.returns-then-has_two_firsts_alike
returns-then-has_two_firsts_alike c = grind (arith, common_steps)
