use Rattle.std.proofs.Common.{arith}
use Rattle.std.proofs.lemmas.Grind.{common_steps}
use Rattle.cip_mancude.proofs.bond_positions.has_counted.Goals as goal

pub returns-then-edge : goal.returns-then-edge
returns-then-edge c = grind (arith, common_steps)

pub loop-edge-preserved : goal.loop-edge-preserved
loop-edge-preserved c = grind (arith, common_steps)

pub returns : goal.returns
returns c = grind (arith, common_steps)
