use Rattle.std.proofs.Common.{arith}
use Rattle.std.proofs.lemmas.Grind.{common_steps}
use Rattle.cip_arena.proofs.node_data.mean_atomic_key.Goals as goal

pub returns : goal.returns
returns c = grind (arith, common_steps)
