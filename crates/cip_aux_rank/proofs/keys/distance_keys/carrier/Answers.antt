use Rattle.std.proofs.Common.{arith}
use Rattle.std.proofs.lemmas.Grind.{common_steps}
use Rattle.cip_aux_rank.proofs.keys.distance_keys.carrier.Goals as goal

pub parent-requires : goal.parent-requires
parent-requires g c = grind (arith, common_steps)
