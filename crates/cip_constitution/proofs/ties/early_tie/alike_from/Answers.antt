use Rattle.std.proofs.Common.{arith}
use Rattle.std.proofs.lemmas.Grind.{common_steps}
use Rattle.cip_constitution.proofs.ties.early_tie.alike_from.Goals as goal

pub loop-rest-preserved : goal.loop-rest-preserved
loop-rest-preserved c = grind (arith, common_steps)

pub returns-clause-alike : goal.returns-clause-alike
returns-clause-alike c = grind (arith, common_steps)
