use Rattle.std.proofs.Common.{arith}
use Rattle.std.proofs.lemmas.Grind.{common_steps}
use Rattle.cip_arena.proofs.lemmas.Added.{copies_more}
use Rattle.cip_arena.proofs.arena.Arena.add_copies.Goals as goal

pub loop-preserved : goal.loop-preserved
loop-preserved g c = grind (arith, common_steps, copies_more)
