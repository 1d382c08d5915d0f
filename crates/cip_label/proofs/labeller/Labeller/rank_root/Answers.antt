use Rattle.std.proofs.Common.{arith}
use Rattle.std.proofs.lemmas.Grind.{common_steps}
use Rattle.cip_label.proofs.labeller.Labeller.rank_root.Goals as goal

pub returns-clause-ranked : goal.returns-clause-ranked
returns-clause-ranked g c = grind (arith, common_steps)
