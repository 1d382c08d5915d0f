use Rattle.std.proofs.Common.{arith}
use Rattle.cip_print.proofs.lemmas.Lines.{one_more}
use Rattle.cip_print.proofs.answer_values.push_lines.Goals as goal

pub loop-place-preserved : goal.loop-place-preserved
loop-place-preserved c = record {
  so_far =
      one_more c.args.units.now c.loop-place.place c.get.result.now c.loop-place.values c.push_line.new.values _
      c.get.ensures c.in-Ok.ensures.added c.loop-place.invariant.so_far;
  few = omega (arith, c.in-Ok.ensures.few, c.loop-place.invariant.few);
}
