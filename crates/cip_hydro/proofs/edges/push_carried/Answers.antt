use Rattle.std.proofs.Common.{◌∙◌, arith}
use Rattle.cip_hydro.proofs.lemmas.Carried.{carried_next}
use Rattle.cip_hydro.proofs.edges.push_carried.Goals as goal

pub loop-place-preserved : goal.loop-place-preserved
loop-place-preserved c = record {
  value = c.push_reserved.ensures.items
      ∙ carried_next _ _ c.args.first c.args.carrier c.loop-place.place c.loop-place.invariant.value;
  count = omega (arith, c.push_reserved.ensures.len, c.loop-place.invariant.count);
  room = c.push_reserved.ensures.capacity ∙ c.loop-place.invariant.room;
}
