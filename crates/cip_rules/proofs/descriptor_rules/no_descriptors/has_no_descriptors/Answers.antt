use Rattle.std.proofs.Common.{arith}
use Rattle.cip_rules.proofs.descriptor_rules.no_descriptors.has_no_descriptors.Goals as goal

pub returns-clause-none : goal.returns-clause-none
returns-clause-none g c = λ yes. record {
  each = λ t place p.
      let lt = c.count-count.ensures.below t place p.at in
      let done = c.loop-place-test.false in
      c.loop-place.invariant place (omega (arith, lt, done)) p.chosen;
}
