use Rattle.std.proofs.Common.{arith}
use Rattle.cip_print.proofs.lemmas.Explained.{one_counted}
use Rattle.cip_print.proofs.tally.counts_of.Goals as goal

pub loop-place-preserved : goal.loop-place-preserved
loop-place-preserved c = record {
  counted =
      one_counted c.args.units.now c.loop-place.place c.get.result.now c.loop-place.counts c.with_outcome-counts.result
      _ c.get.ensures c.with_outcome-counts.ensures.counted c.loop-place.invariant.counted;
  few = omega (arith, c.with_outcome-counts.ensures.one, c.loop-place.invariant.few);
}
