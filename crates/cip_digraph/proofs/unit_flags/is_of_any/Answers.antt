use Rattle.std.proofs.Common.{arith}
use Rattle.std.proofs.lemmas.Grind.{common_steps}
use Rattle.cip_digraph.proofs.unit_flags.is_of_any.Goals as goal

pub loop-unit-preserved : goal.loop-unit-preserved
loop-unit-preserved c = grind (arith, common_steps)

pub returns-then-is_atom_of : goal.returns-then-is_atom_of
returns-then-is_atom_of c = grind (arith, common_steps)

pub returns : goal.returns
returns c = grind (arith, common_steps)
