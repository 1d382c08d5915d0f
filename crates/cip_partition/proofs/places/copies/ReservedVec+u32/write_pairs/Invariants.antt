use Rattle.std.proofs.Common.{◌≡◌, take}
use Rattle.cip_partition.specs.Twins.{pairs}
use Rattle.cip_partition.proofs.places.copies.ReservedVec+u32.write_pairs.Given as goal

abbrev pub invariant-loop-place : goal.invariant-loop-place
invariant-loop-place l = record {
  written : l.self ≡ record l.fn.self { items = pairs l.count (take l.place-index l.places) };
}
