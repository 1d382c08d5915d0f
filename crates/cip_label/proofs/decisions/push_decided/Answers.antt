use Rattle.std.proofs.Common.{arith}
use Rattle.std.proofs.lemmas.Grind.{common_steps}
use Rattle.cip_label.proofs.decisions.push_decided.Goals as goal

pub returns : goal.returns
returns g c = grind (arith, common_steps)

pub loop-other-preserved : goal.loop-other-preserved
loop-other-preserved g c = grind (arith, common_steps)
