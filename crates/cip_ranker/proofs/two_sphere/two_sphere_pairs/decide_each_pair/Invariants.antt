use Rattle.std.proofs.Common.{◌≡◌, ◌++◌, length}
use Rattle.cip_ranker.specs.RootDecisions.{answers_of}
use Rattle.cip_ranker.proofs.two_sphere.two_sphere_pairs.decide_each_pair.Given as goal

abbrev pub invariant-loop-one : goal.invariant-loop-one
invariant-loop-one l =
    l.noted.items ++ answers_of l.rest ≡ answers_of l.fn.branches

abbrev pub decreases-loop-one : goal.decreases-loop-one
decreases-loop-one l = length l.rest
