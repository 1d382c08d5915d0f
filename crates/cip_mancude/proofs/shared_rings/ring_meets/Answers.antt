use Rattle.std.proofs.Common.{arith}
use Rattle.std.proofs.lemmas.Grind.{common_steps}
use Rattle.cip_mancude.proofs.shared_rings.ring_meets.Goals as goal

pub push-requires-then-other-start : goal.push-requires-then-other-start
push-requires-then-other-start c = grind (arith, common_steps)

pub push-requires : goal.push-requires
push-requires c = grind (arith, common_steps)

pub reaches_early-requires : goal.reaches_early-requires
reaches_early-requires c = grind (arith, common_steps)
