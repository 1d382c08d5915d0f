use Rattle.std.proofs.Common.{◌≡◌, ◌<◌, ◌≤◌, ℕ, slice_index}
use Rattle.std.specs.declared.cmp.Ordering.TheVariants.{Equal}
use Rattle.cip_partition.specs.Rows.{number_in}
use Rattle.cip_partition.proofs.uniform.is_uniform.Given as goal

abbrev pub invariant-loop-row : goal.invariant-loop-row
invariant-loop-row g l =
    (k : ℕ) → l.from ≤ k → k < l.row
    → g.S.NodeOrder.order l.by (slice_index l.order.rows (number_in l.order.rows l.order.numbers k))
    (slice_index l.order.rows k) ≡ Equal
