use Rattle.std.proofs.Common.{◌≡◌, drop}
use Rattle.std.specs.List.{list_all}
use Rattle.cip_constitution.specs.Following.{numbers_of}
use Rattle.cip_constitution.specs.Standing.{differ_told}
use Rattle.cip_constitution.proofs.ties.distinct.part_from.Given as goal

abbrev pub invariant-loop-other : goal.invariant-loop-other
invariant-loop-other l =
    list_all (differ_told (numbers_of l.branches) l.arena.nodes l.ligand) (drop l.other-index l.others)
    ≡ list_all (differ_told (numbers_of l.branches) l.arena.nodes l.ligand) l.others
