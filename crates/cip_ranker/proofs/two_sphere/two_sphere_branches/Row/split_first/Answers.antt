use Rattle.std.proofs.Common.{arith}
use Rattle.std.proofs.lemmas.Grind.{common_steps}
use Rattle.cip_ranker.proofs.two_sphere.two_sphere_branches.Row.split_first.Goals as goal

pub returns-clause-some : goal.returns-clause-some
returns-clause-some c = grind (arith, common_steps)
