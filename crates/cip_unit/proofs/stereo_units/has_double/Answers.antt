use Rattle.std.proofs.Common.{arith}
use Rattle.std.proofs.lemmas.Grind.{common_steps}
use Rattle.cip_unit.proofs.stereo_units.has_double.Goals as goal

pub loop-edge-preserved : goal.loop-edge-preserved
loop-edge-preserved c = grind (arith, common_steps)

pub returns-then-edge-eq2 : goal.returns-then-edge-eq2
returns-then-edge-eq2 c = grind (arith, common_steps)

pub returns : goal.returns
returns c = grind (arith, common_steps)
