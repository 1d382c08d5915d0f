use Rattle.std.proofs.Common.{◌≡◌, drop}
use Rattle.std.specs.List.{list_any}
use Rattle.cip_edit.specs.Marking.{can_be_marked}
use Rattle.cip_edit.proofs.centres.eligible_bond.has_free.Given as goal

abbrev pub invariant-loop-bond : goal.invariant-loop-bond
invariant-loop-bond l =
    list_any (can_be_marked l.atom l.neighbour) (drop l.bond-index l.bonds) ≡ list_any (can_be_marked l.atom l.neighbour) l.bonds
