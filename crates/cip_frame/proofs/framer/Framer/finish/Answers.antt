use Rattle.std.proofs.Common.{arith}
use Rattle.std.proofs.lemmas.Grind.{common_steps}
use Rattle.cip_frame.proofs.framer.Framer.finish.Goals as goal

pub returns-clause-tail : goal.returns-clause-tail
returns-clause-tail c = grind (arith, common_steps)

pub returns-clause-rest : goal.returns-clause-rest
returns-clause-rest c = grind (arith, common_steps)
