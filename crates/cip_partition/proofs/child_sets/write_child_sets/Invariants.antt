use Rattle.cip_partition.specs.Kids.{kids_of, HoldKidSets}
use Rattle.cip_partition.proofs.child_sets.write_child_sets.Given as goal

abbrev pub invariant-loop-row : goal.invariant-loop-row
invariant-loop-row l = record {
  hold : HoldKidSets (kids_of l.family) l.order.rows l.order.numbers l.from l.row l.flags l.sets;
}
