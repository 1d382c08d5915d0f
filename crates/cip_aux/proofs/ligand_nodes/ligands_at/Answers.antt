use Rattle.std.proofs.Common.{arith}
use Rattle.std.proofs.lemmas.Grind.{common_steps}
use Rattle.cip_aux.proofs.ligand_nodes.ligands_at.Goals as goal

pub loop-place-preserved : goal.loop-place-preserved
loop-place-preserved g c = grind (arith, common_steps)

pub returns : goal.returns
returns g c = grind (arith, common_steps)

pub ligand-requires-clause-tree : goal.ligand-requires-clause-tree
ligand-requires-clause-tree g c = c.requires.tree

pub ligand-requires-clause-within : goal.ligand-requires-clause-within
ligand-requires-clause-within g c = c.requires.within

pub push-requires : goal.push-requires
push-requires g c = grind (arith, common_steps)
