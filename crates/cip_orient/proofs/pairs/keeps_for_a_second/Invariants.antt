use Rattle.std.proofs.Common.{◌≡◌, drop}
use Rattle.std.specs.List.{list_any}
use Rattle.cip_mol.specs.Pairs.{are_two_alike}
use Rattle.cip_orient.specs.PairSigns.{pair_sign}
use Rattle.cip_orient.proofs.pairs.keeps_for_a_second.Given as goal

abbrev pub invariant-loop-second : goal.invariant-loop-second
invariant-loop-second l =
    list_any (λ second. are_two_alike (λ first. pair_sign l.sign l.between first second) l.firsts)
    (drop l.second-index l.seconds)
    ≡ list_any (λ second. are_two_alike (λ first. pair_sign l.sign l.between first second) l.firsts) l.seconds
