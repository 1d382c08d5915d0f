use Rattle.std.proofs.Common.{◌≡◌, ◌++◌, length, take}
use Rattle.cip_partition.specs.Twins.{twins_from}
use Rattle.cip_partition.proofs.places.copies.ReservedVec+Place.push_moved.Given as goal

abbrev pub invariant-loop-place : goal.invariant-loop-place
invariant-loop-place l = record {
  added : l.self ≡ record l.fn.self {
    items = l.fn.self.items ++ twins_from (length l.fn.self.items) l.by l.count (take l.place-index l.places);
  };
}
