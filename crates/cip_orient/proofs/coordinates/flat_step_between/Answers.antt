use Rattle.std.proofs.Common.{arith}
use Rattle.std.proofs.lemmas.Grind.{common_steps}
use Rattle.cip_orient.proofs.coordinates.flat_step_between.Goals as goal

pub returns-clause-small : goal.returns-clause-small
returns-clause-small c = grind (arith, common_steps)

pub difference-requires-2-clause-b : goal.difference-requires-2-clause-b
difference-requires-2-clause-b c = grind (arith, common_steps)

pub difference-requires-2-clause-a : goal.difference-requires-2-clause-a
difference-requires-2-clause-a c = grind (arith, common_steps)

pub difference-requires-clause-b : goal.difference-requires-clause-b
difference-requires-clause-b c = grind (arith, common_steps)

pub difference-requires-clause-a : goal.difference-requires-clause-a
difference-requires-clause-a c = grind (arith, common_steps)
