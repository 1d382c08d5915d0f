use Rattle.std.proofs.Common.{arith}
use Rattle.std.proofs.lemmas.List.{take_rest}
use Rattle.cip_io.proofs.lemmas.Growth.{appends_more}
use Rattle.cip_io.proofs.stream.push_all.Goals as goal

pub loop-done-preserved : goal.loop-done-preserved
loop-done-preserved g c = record {
  within = omega (arith, c.in-Ok.ensures.within);
  taken = appends_more _ _ _ _ _ _ c.loop-done.invariant.taken (rw take_rest at c.in-Ok.ensures.added);
  later = omega (arith, c.in-Ok.ensures.cause.later);
}
