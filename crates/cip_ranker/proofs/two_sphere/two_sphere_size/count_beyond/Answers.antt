use Rattle.std.proofs.Common.{arith}
use Rattle.cip_ranker.proofs.lemmas.Counted.{beyond_counted}
use Rattle.cip_ranker.proofs.two_sphere.two_sphere_size.count_beyond.Goals as goal

pub returns-else-root-other-clause-count : goal.returns-else-root-other-clause-count
returns-else-root-other-clause-count c = grind (arith, beyond_counted)

pub returns-then-root-other-clause-count : goal.returns-then-root-other-clause-count
returns-then-root-other-clause-count c = grind (arith, beyond_counted)
