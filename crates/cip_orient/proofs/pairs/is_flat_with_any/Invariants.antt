use Rattle.std.proofs.Common.{◌≡◌, drop}
use Rattle.std.specs.List.{list_any}
use Rattle.cip_num.specs.Signs.{is_zero}
use Rattle.cip_orient.specs.PairSigns.{pair_sign}
use Rattle.cip_orient.proofs.pairs.is_flat_with_any.Given as goal

abbrev pub invariant-loop-second : goal.invariant-loop-second
invariant-loop-second l =
    list_any (λ second. is_zero (pair_sign l.sign l.between l.first second)) (drop l.second-index l.seconds)
    ≡ list_any (λ second. is_zero (pair_sign l.sign l.between l.first second)) l.seconds
