use Rattle.std.proofs.Common.{arith}
use Rattle.std.proofs.lemmas.Grind.{common_steps}
use Rattle.cip_orient.proofs.flat_axis.is_any_on_line.Goals as goal

pub loop-ligand-preserved : goal.loop-ligand-preserved
loop-ligand-preserved c = grind (arith, common_steps)

pub returns-then-matches : goal.returns-then-matches
returns-then-matches c = grind (arith, common_steps)
