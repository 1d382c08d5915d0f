use Rattle.std.proofs.Common.{arith}
use Rattle.std.proofs.lemmas.Grind.{common_steps}
use Rattle.cip_mol.proofs.graph.molecule.Molecule.new.Goals as goal

pub from_bonds-requires-clause-counted : goal.from_bonds-requires-clause-counted
from_bonds-requires-clause-counted c = grind (arith, common_steps)

pub from_bonds-requires-clause-range : goal.from_bonds-requires-clause-range
from_bonds-requires-clause-range c = grind (arith, common_steps)
