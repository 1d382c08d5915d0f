use Rattle.std.proofs.Common.{arith}
use Rattle.std.proofs.lemmas.Grind.{common_steps}
use Rattle.cip_aux_rank.proofs.branches.branch_tops.is_asked.Goals as goal

pub returns-then-eq : goal.returns-then-eq
returns-then-eq c = grind (arith, common_steps)

pub loop-ligand-preserved : goal.loop-ligand-preserved
loop-ligand-preserved c = grind (arith, common_steps)
