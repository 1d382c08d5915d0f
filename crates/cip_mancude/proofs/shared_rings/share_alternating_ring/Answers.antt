use Rattle.std.proofs.Common.{arith}
use Rattle.std.proofs.lemmas.Grind.{common_steps}
use Rattle.cip_mancude.specs.SharedRings.{share_alternating_ring}
use Rattle.cip_mancude.proofs.lemmas.WaySteps.{none_shared}
use Rattle.cip_mancude.proofs.shared_rings.share_alternating_ring.Goals as goal

pub ring_along-requires-clause-next : goal.ring_along-requires-clause-next
unfolding share_alternating_ring
ring_along-requires-clause-next c = grind (arith, common_steps, none_shared)

pub returns : goal.returns
unfolding share_alternating_ring
returns c = grind (arith, common_steps, none_shared)
