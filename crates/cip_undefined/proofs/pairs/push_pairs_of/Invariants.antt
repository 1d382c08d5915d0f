use Rattle.std.proofs.Common.{◌≡◌, ◌++◌, map, take}
use Rattle.cip_undefined.specs.Pairs.{pair}
use Rattle.cip_undefined.proofs.pairs.push_pairs_of.Given as goal

abbrev pub invariant-loop-other : goal.invariant-loop-other
invariant-loop-other l = l.pairs.items ≡ l.initial.pairs.items ++ map (pair l.at l.one) (take l.other-index l.others)
