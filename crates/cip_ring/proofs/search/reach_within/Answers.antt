use Rattle.std.proofs.Common.{◌≡◌, ◌∙◌, length, ap, sym, add-one}
use Rattle.std.specs.Prelude.{flat_map}
use Rattle.cip_ring.specs.Neighbours.{next_within, within}
use Rattle.cip_ring.proofs.lemmas.Further.{next_done, no_shorter}
use Rattle.cip_ring.proofs.search.reach_within.Goals as goal

pub loop-preserved : goal.loop-preserved
loop-preserved g c =
    let step = g.S.Neighbours.step c.args.steps.now in
    let old = c.loop.reached in
    let counted : c.len-count.result ≡ length old = c.len-count.ensures in
    record {
      value = c.in-Ok-step_on.ensures ∙ ap (next_within step) c.loop.invariant.value
          ∙ sym (ap (within step c.args.from) (add-one c.loop.counter));
      within = rw (counted, c.in-Ok-step_on.ensures) (no_shorter old (flat_map step old));
      done = rw (counted, c.in-Ok-step_on.ensures) (next_done step old);
    }
