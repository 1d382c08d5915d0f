use Rattle.std.proofs.Common.{◌≡◌, ◌++◌, map, take}
use Rattle.cip_partition.specs.Twins.{twice}
use Rattle.cip_partition.proofs.places.copies.ReservedVec+u32.push_twice.Given as goal

abbrev pub invariant-loop-number : goal.invariant-loop-number
invariant-loop-number l = record {
  added : l.self ≡ record l.fn.self {
    items = l.fn.self.items ++ map (twice l.count) (take l.number-index l.numbers);
  };
}
