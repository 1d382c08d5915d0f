use Rattle.std.proofs.Common.{take}
use Rattle.cip_stereogroups.specs.Places.{ArePlaces}
use Rattle.cip_stereogroups.proofs.centre_index.places_of.Given as goal

abbrev pub invariant-loop-place : goal.invariant-loop-place
invariant-loop-place l = ArePlaces l.places (take l.place l.units)
