use Rattle.std.proofs.Common.{arith}
use Rattle.std.proofs.lemmas.Grind.{common_steps}
use Rattle.cip_orient.proofs.pairs.keeps_for_a_first.Goals as goal

pub loop-first-preserved : goal.loop-first-preserved
loop-first-preserved c = grind (arith, common_steps)

pub returns-then-has_two_seconds_alike : goal.returns-then-has_two_seconds_alike
returns-then-has_two_seconds_alike c = grind (arith, common_steps)
