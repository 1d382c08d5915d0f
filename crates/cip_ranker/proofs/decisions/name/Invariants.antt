use Rattle.std.proofs.Common.{◌≡◌, ◌++◌, length}
use Rattle.cip_ranker.specs.Standing.{by_vertices}
use Rattle.cip_ranker.proofs.decisions.name.Given as goal

abbrev pub invariant-loop-rest : goal.invariant-loop-rest
invariant-loop-rest l = l.named.items ++ by_vertices l.rest l.found ≡ by_vertices l.pairs l.noted

abbrev pub decreases-loop-rest : goal.decreases-loop-rest
decreases-loop-rest l = length l.rest
