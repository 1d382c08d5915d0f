use Rattle.std.proofs.Common.{take}
use Rattle.cip_stereogroups.specs.Places.{AreAtoms}
use Rattle.cip_stereogroups.proofs.atoms.atom_index.places_of.Given as goal

abbrev pub invariant-loop-place : goal.invariant-loop-place
invariant-loop-place l = AreAtoms l.places (take l.place l.indices)
