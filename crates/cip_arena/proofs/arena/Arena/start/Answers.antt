use Rattle.std.proofs.Common.{arith}
use Rattle.std.proofs.lemmas.Grind.{common_steps}
use Rattle.cip_arena.proofs.lemmas.Flagged.{first_flagged}
use Rattle.cip_arena.proofs.arena.Arena.start.Goals as goal

pub returns-clause-holds : goal.returns-clause-holds
returns-clause-holds c = grind (arith, common_steps, first_flagged)

pub push-requires-clause-root : goal.push-requires-clause-root
push-requires-clause-root c = grind (arith, common_steps, first_flagged)

pub invariant_of-self : goal.invariant_of-self
invariant_of-self c = grind (arith, common_steps, first_flagged)

pub push-requires-clause-room : goal.push-requires-clause-room
push-requires-clause-room c = grind (arith, common_steps, first_flagged)

pub push_reserved-requires : goal.push_reserved-requires
push_reserved-requires c = grind (arith, common_steps, first_flagged)

pub returns-clause-bound : goal.returns-clause-bound
returns-clause-bound c = grind (arith, common_steps, first_flagged)
