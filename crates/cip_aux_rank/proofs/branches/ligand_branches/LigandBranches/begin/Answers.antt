use Rattle.std.proofs.Common.{arith}
use Rattle.std.proofs.lemmas.Grind.{common_steps}
use Rattle.cip_aux_rank.proofs.branches.ligand_branches.LigandBranches.begin.Goals as goal

pub fill_tops-requires-clause-node : goal.fill_tops-requires-clause-node
fill_tops-requires-clause-node g c = grind (arith, common_steps)

pub fill_tops-requires-clause-room : goal.fill_tops-requires-clause-room
fill_tops-requires-clause-room g c = grind (arith, common_steps)
