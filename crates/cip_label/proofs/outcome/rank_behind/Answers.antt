use Rattle.std.proofs.Common.{arith}
use Rattle.std.proofs.lemmas.Grind.{common_steps}
use Rattle.cip_label.proofs.outcome.rank_behind.Goals as goal

pub returns-in-Tie-clause-ranked : goal.returns-in-Tie-clause-ranked
returns-in-Tie-clause-ranked g c = grind (arith, common_steps)
