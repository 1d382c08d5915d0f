use Rattle.std.proofs.Common.{arith}
use Rattle.std.proofs.lemmas.Grind.{common_steps}
use Rattle.cip_orient.proofs.pairs.is_flat_with_any.Goals as goal

pub loop-second-preserved : goal.loop-second-preserved
loop-second-preserved c = grind (arith, common_steps)

pub returns-then-matches : goal.returns-then-matches
returns-then-matches c = grind (arith, common_steps)
