use Rattle.std.proofs.Common.{◌≡◌, drop}
use Rattle.cip_edit.specs.Marking.{first_where, is_eligible}
use Rattle.cip_edit.proofs.centres.eligible_bond.first_eligible.Given as goal

abbrev pub invariant-loop-number : goal.invariant-loop-number
invariant-loop-number l =
    first_where (is_eligible l.bare l.atom l.site) (drop l.number-index l.numbers)
    ≡ first_where (is_eligible l.bare l.atom l.site) l.numbers
