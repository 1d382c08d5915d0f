use Rattle.std.proofs.Common.{◌≡◌, length}
use Rattle.cip_digraph.specs.units.Ranked.{every_pair}
use Rattle.cip_constitution.specs.Following.{numbers_of}
use Rattle.cip_constitution.specs.Standing.{differ_told}
use Rattle.cip_constitution.proofs.ties.distinct.all_distinct.Given as goal

abbrev pub invariant-loop-rest : goal.invariant-loop-rest
invariant-loop-rest l = every_pair (differ_told (numbers_of l.branches) l.arena.nodes) l.rest ≡ every_pair
    (differ_told (numbers_of l.branches) l.arena.nodes) l.ligands

abbrev pub decreases-loop-rest : goal.decreases-loop-rest
decreases-loop-rest l = length l.rest
