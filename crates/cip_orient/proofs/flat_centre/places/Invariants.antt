use Rattle.std.proofs.Common.{◌≡◌, map, take, length}
use Rattle.cip_num.specs.Around.{place}
use Rattle.cip_orient.proofs.flat_centre.places.Given as goal

abbrev pub invariant-loop-number : goal.invariant-loop-number
invariant-loop-number l = record {
  so_far : l.places ≡ map (place l.directions) (take l.number l.directions);
  counted : length l.places ≡ l.number;
}
