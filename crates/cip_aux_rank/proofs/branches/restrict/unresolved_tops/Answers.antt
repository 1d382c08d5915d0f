use Rattle.std.proofs.Common.{arith}
use Rattle.std.proofs.lemmas.Grind.{common_steps}
use Rattle.cip_aux_rank.proofs.branches.restrict.unresolved_tops.Goals as goal

pub loop-top-preserved : goal.loop-top-preserved
loop-top-preserved c = grind (arith, common_steps)

pub returns : goal.returns
returns c = grind (arith, common_steps)
