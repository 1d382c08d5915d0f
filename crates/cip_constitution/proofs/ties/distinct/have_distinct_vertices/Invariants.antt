use Rattle.std.proofs.Common.{◌≡◌, length}
use Rattle.cip_digraph.specs.units.Ranked.{every_pair}
use Rattle.cip_constitution.specs.Ending.{are_unlike}
use Rattle.cip_constitution.proofs.ties.distinct.have_distinct_vertices.Given as goal

abbrev pub invariant-loop-rest : goal.invariant-loop-rest
invariant-loop-rest l = every_pair are_unlike l.rest ≡ every_pair are_unlike l.ligands

abbrev pub decreases-loop-rest : goal.decreases-loop-rest
decreases-loop-rest l = length l.rest
