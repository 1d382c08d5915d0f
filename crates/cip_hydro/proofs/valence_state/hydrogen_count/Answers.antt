use Rattle.std.proofs.Common.{arith}
use Rattle.std.proofs.lemmas.Grind.{common_steps}
use Rattle.cip_hydro.proofs.valence_state.hydrogen_count.Goals as goal

pub loop-around-preserved : goal.loop-around-preserved
loop-around-preserved c = grind (arith, common_steps)

pub returns-clause-value : goal.returns-clause-value
returns-clause-value c = grind (arith, common_steps)
