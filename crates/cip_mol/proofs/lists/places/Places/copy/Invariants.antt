use Rattle.std.proofs.Common.{◌≡◌, ◌≤◌, length, take}
use Rattle.cip_mol.proofs.lists.places.Places.copy.Given as goal

abbrev pub invariant-loop-place : goal.invariant-loop-place
invariant-loop-place l = record {
  so_far : l.copy ≡ take l.place-index l.self;
  few : length l.self ≤ 4;
}
