use Rattle.std.proofs.Common.{arith}
use Rattle.cip_print.proofs.tally.Tally.count.Goals as goal

pub invariant_of-self : goal.invariant_of-self
invariant_of-self c = (
  omega (arith, c.self.invariant.0),
  omega (
    arith,
    c.self.invariant.1,
    c.counts_of-counts.ensures.few,
    c.from.ensures,
    c.from-in-Labelled.ensures,
    c.from-in-Labelled-2.ensures,
    c.from-in-Labelled-3.ensures,
  ),
)
