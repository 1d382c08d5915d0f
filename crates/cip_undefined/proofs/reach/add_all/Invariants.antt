use Rattle.std.proofs.Common.{◌≡◌, drop}
use Rattle.cip_digraph.specs.rings.SmallRings.{with_new}
use Rattle.cip_undefined.proofs.reach.add_all.Given as goal

abbrev pub invariant-loop-atom : goal.invariant-loop-atom
invariant-loop-atom l = with_new l.free (drop l.atom-index l.atoms) ≡ with_new l.initial.free l.atoms
