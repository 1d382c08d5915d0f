use Rattle.std.proofs.Common.{◌≡◌, ◌++◌, flat_map, length}
use Rattle.cip_ranker.specs.RootDecisions.{answer_between, answers_at}
use Rattle.cip_ranker.proofs.two_sphere.two_sphere_pairs.note_with_each.Given as goal

abbrev pub invariant-loop-other : goal.invariant-loop-other
invariant-loop-other l =
    l.noted.items ++ flat_map (answer_between l.one) l.rest ≡ l.fn.noted.items ++ answers_at l.fn.branches l.one

abbrev pub decreases-loop-other : goal.decreases-loop-other
decreases-loop-other l = length l.rest
