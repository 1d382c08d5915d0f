use Rattle.std.proofs.Common.{arith}
use Rattle.std.proofs.lemmas.Grind.{common_steps}
use Rattle.cip_partition.proofs.reserved_vec.ReservedVec.fill.Goals as goal

pub loop-preserved : goal.loop-preserved
loop-preserved g c = grind (arith, common_steps)

pub push-requires : goal.push-requires
push-requires g c = grind (arith, common_steps)
