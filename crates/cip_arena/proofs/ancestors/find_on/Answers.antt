use Rattle.std.proofs.Common.{arith}
use Rattle.std.proofs.lemmas.Grind.{common_steps}
use Rattle.cip_arena.proofs.lemmas.Walked.{step_up, found_here, none_at_root}
use Rattle.cip_arena.proofs.ancestors.find_on.Goals as goal

pub loop-at-preserved : goal.loop-at-preserved
loop-at-preserved c = grind (arith, common_steps, step_up, found_here, none_at_root)
