use Rattle.std.proofs.Common.{◌-◌, ◌≡◌, ◌≤◌, length}
use Rattle.cip_partition.specs.Parting.{PartsSphere}
use Rattle.cip_partition.proofs.splits.split.split_classes.Given as goal

abbrev pub invariant-loop-row : goal.invariant-loop-row
invariant-loop-row g l = record {
  low : l.from ≤ l.row;
  high : l.row ≤ l.to;
  parts : PartsSphere (g.S.NodeOrder.order l.by) l.from l.to l.row l.flags l.fn.order.rows l.order.rows
      l.fn.order.numbers l.order.numbers;
  len : length l.order.rows ≡ length l.fn.order.rows;
  numbers_len : length l.order.numbers ≡ length l.fn.order.numbers;
  room : l.order.room ≡ l.fn.order.room;
}

abbrev pub decreases-loop-row : goal.decreases-loop-row
decreases-loop-row g l = l.to - l.row
