use Rattle.std.proofs.Common.{◌≡◌, ℕ, true, false}
use Rattle.cip_partition.specs.Stirring.{IsAbove, StirsAbove}
use Rattle.cip_partition.proofs.splits.dirty.flag_dirty_parents.Given as goal

abbrev pub invariant-loop-row : goal.invariant-loop-row
invariant-loop-row l = record {
  done : StirsAbove l.family.place_parents l.order.rows l.before l.order.numbers l.from l.row l.fn.flags l.flags;
  some : l.any ≡ true → (number : ℕ) × IsAbove l.family.place_parents l.order.rows l.before l.order.numbers l.from l.row number;
  none : l.any ≡ false → l.flags ≡ l.fn.flags;
}
