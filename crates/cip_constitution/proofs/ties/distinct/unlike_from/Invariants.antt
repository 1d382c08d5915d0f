use Rattle.std.proofs.Common.{◌≡◌, drop}
use Rattle.std.specs.List.{list_all}
use Rattle.cip_constitution.specs.Ending.{are_unlike}
use Rattle.cip_constitution.proofs.ties.distinct.unlike_from.Given as goal

abbrev pub invariant-loop-other : goal.invariant-loop-other
invariant-loop-other l =
    list_all (are_unlike l.ligand) (drop l.other-index l.others)
    ≡ list_all (are_unlike l.ligand) l.others
