use Rattle.std.proofs.Common.{◌≡◌, replicate}
use Rattle.cip_partition.proofs.reserved_vec.ReservedVec.fill.Given as goal

abbrev pub invariant-loop : goal.invariant-loop
invariant-loop g l = record { filled : l.self ≡ record l.fn.self { items = replicate l.counter l.item } }
