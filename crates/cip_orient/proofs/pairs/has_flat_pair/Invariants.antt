use Rattle.std.proofs.Common.{◌≡◌, drop}
use Rattle.cip_mol.specs.Pairs.{has_flat_pair}
use Rattle.cip_orient.specs.PairSigns.{pair_sign}
use Rattle.cip_orient.proofs.pairs.has_flat_pair.Given as goal

abbrev pub invariant-loop-first : goal.invariant-loop-first
invariant-loop-first l =
    has_flat_pair (pair_sign l.sign l.between) (drop l.first-index l.firsts) l.seconds
    ≡ has_flat_pair (pair_sign l.sign l.between) l.firsts l.seconds
