use Rattle.std.proofs.Common.{◌≡◌, false}
use Rattle.cip_unit.specs.Sites.{has_allene}
use Rattle.cip_unit.proofs.stereo_units.has_allene.Given as goal

abbrev pub invariant-loop-atom : goal.invariant-loop-atom
invariant-loop-atom l = has_allene l.graph l.atom ≡ false
