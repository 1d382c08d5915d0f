use Rattle.std.proofs.Common.{arith}
use Rattle.std.proofs.lemmas.Grind.{common_steps}
use Rattle.cip_aux.proofs.ligand_nodes.ligand_parent.Goals as goal

pub is_ligand-requires : goal.is_ligand-requires
is_ligand-requires g c = grind (arith, common_steps)

pub parent-requires : goal.parent-requires
parent-requires g c = grind (arith, common_steps)
