use Rattle.std.proofs.Common.{arith}
use Rattle.std.proofs.lemmas.Grind.{common_steps}
use Rattle.cip_hydro.proofs.valence.free_valence.Goals as goal

pub loop-valence-preserved : goal.loop-valence-preserved
loop-valence-preserved c = grind (arith, common_steps)

pub returns-clause-value : goal.returns-clause-value
returns-clause-value c = grind (arith, common_steps)

pub returns-then-used-from-clause-value : goal.returns-then-used-from-clause-value
returns-then-used-from-clause-value c = grind (arith, common_steps)
