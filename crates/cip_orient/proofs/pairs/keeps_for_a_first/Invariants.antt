use Rattle.std.proofs.Common.{◌≡◌, drop}
use Rattle.std.specs.List.{list_any}
use Rattle.cip_mol.specs.Pairs.{are_two_alike}
use Rattle.cip_orient.specs.PairSigns.{pair_sign}
use Rattle.cip_orient.proofs.pairs.keeps_for_a_first.Given as goal

abbrev pub invariant-loop-first : goal.invariant-loop-first
invariant-loop-first l =
    list_any (λ first. are_two_alike (λ second. pair_sign l.sign l.between first second) l.seconds)
    (drop l.first-index l.firsts)
    ≡ list_any (λ first. are_two_alike (λ second. pair_sign l.sign l.between first second) l.seconds) l.firsts
