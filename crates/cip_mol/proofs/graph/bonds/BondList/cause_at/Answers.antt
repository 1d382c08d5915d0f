use Rattle.std.proofs.Common.{arith}
use Rattle.std.proofs.lemmas.Grind.{common_steps}
use Rattle.cip_mol.specs.Bonds.{cause_of}
use Rattle.cip_mol.proofs.graph.bonds.BondList.cause_at.Goals as goal

pub joins-requires : goal.joins-requires
unfolding cause_of
joins-requires c = grind (arith, common_steps)

pub degree-requires : goal.degree-requires
unfolding cause_of
degree-requires c = grind (arith, common_steps)

pub degree-requires-else-degree-ge-MOST_BONDS : goal.degree-requires-else-degree-ge-MOST_BONDS
unfolding cause_of
degree-requires-else-degree-ge-MOST_BONDS c = grind (arith, common_steps)
