use Rattle.std.proofs.Common.{arith}
use Rattle.std.proofs.lemmas.Grind.{common_steps}
use Rattle.cip_label.proofs.outcome.of_two.Goals as goal

pub push_all-requires : goal.push_all-requires
push_all-requires c = grind (arith, common_steps)
