use Rattle.std.proofs.Common.{arith}
use Rattle.std.proofs.lemmas.Grind.{common_steps}
use Rattle.cip_arena.proofs.vertex_flags.flag_vertex.Goals as goal

pub returns-else-vertex-len-clause-flagged : goal.returns-else-vertex-len-clause-flagged
returns-else-vertex-len-clause-flagged c = grind (arith, common_steps)
