use Rattle.std.proofs.Common.{arith}
use Rattle.std.proofs.lemmas.Grind.{common_steps}
use Rattle.cip_orient.proofs.pairs.has_flat_pair.Goals as goal

pub loop-first-preserved : goal.loop-first-preserved
loop-first-preserved c = grind (arith, common_steps)

pub returns-then-is_flat_with_any : goal.returns-then-is_flat_with_any
returns-then-is_flat_with_any c = grind (arith, common_steps)

pub returns : goal.returns
returns c = grind (arith, common_steps)
