use Rattle.std.proofs.Common.{◌≡◌, ◌++◌, false, replicate}
use Rattle.cip_partition.proofs.places.copies.ReservedVec+bool.push_unset.Given as goal

abbrev pub invariant-loop : goal.invariant-loop
invariant-loop l = record {
  added : l.self ≡ record l.fn.self { items = l.fn.self.items ++ replicate l.counter false };
}
