use Rattle.std.proofs.Common.{◌≡◌, Some, filter, map, take}
use Rattle.cip_aux_rank.specs.Narrowing.{is_open_top}
use Rattle.cip_aux_rank.proofs.branches.restrict.unresolved_tops.Given as goal

abbrev pub invariant-loop-top : goal.invariant-loop-top
invariant-loop-top l = l.found.items ≡ map Some (filter (is_open_top l.tops l.pairs) (take l.top-index l.tops))
