use Rattle.std.proofs.Common.{arith}
use Rattle.std.proofs.lemmas.Grind.{common_steps}
use Rattle.cip_orient.proofs.flat_axis.lead.Goals as goal

pub returns-in-Zero : goal.returns-in-Zero
returns-in-Zero c = grind (arith, common_steps)

pub returns-in_default : goal.returns-in_default
returns-in_default c = grind (arith, common_steps)
