use Rattle.std.proofs.Common.{arith}
use Rattle.std.proofs.lemmas.Grind.{common_steps}
use Rattle.cip_hydro.proofs.valence_state.order_sum.Goals as goal

pub returns : goal.returns
returns c = grind (arith, common_steps)

pub loop-bond-preserved : goal.loop-bond-preserved
loop-bond-preserved c = grind (arith, common_steps)
