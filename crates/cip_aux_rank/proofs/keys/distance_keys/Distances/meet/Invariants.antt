use Rattle.cip_aux.specs.Views.{sight_of}
use Rattle.cip_aux_rank.proofs.lemmas.Meeting.{ComesUp}
use Rattle.cip_aux_rank.proofs.keys.distance_keys.Distances.meet.Given as goal

abbrev pub invariant-loop-table : goal.invariant-loop-table
invariant-loop-table g l = ComesUp (sight_of l.self.whole.now) l.self.from l.node l.at

abbrev pub decreases-loop-table : goal.decreases-loop-table
decreases-loop-table g l = l.at
