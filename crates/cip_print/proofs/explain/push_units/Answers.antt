use Rattle.std.proofs.Common.{arith}
use Rattle.std.proofs.lemmas.Grind.{common_steps}
use Rattle.cip_print.proofs.lemmas.Explained.{one_more}
use Rattle.cip_print.proofs.explain.push_units.Goals as goal

pub loop-place-preserved : goal.loop-place-preserved
loop-place-preserved c =
    one_more c.args.units.now c.loop-place.place c.get.result.now c.loop-place.text.items c.push_unit.new.text.items _
    c.get.ensures c.in-Ok.ensures c.loop-place.invariant

pub returns : goal.returns
returns c = grind (arith, common_steps)
