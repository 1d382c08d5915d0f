use Rattle.std.proofs.Common.{arith}
use Rattle.std.proofs.lemmas.Grind.{common_steps}
use Rattle.cip_constitution.proofs.ties.distinct.have_distinct_vertices.Goals as goal

pub returns-then-not-unlike_from : goal.returns-then-not-unlike_from
returns-then-not-unlike_from c = grind (arith, common_steps)

pub loop-rest-preserved : goal.loop-rest-preserved
loop-rest-preserved c = grind (arith, common_steps)

pub returns : goal.returns
returns c = grind (arith, common_steps)
