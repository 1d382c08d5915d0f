use Rattle.std.proofs.Common.{◌≡◌, ◌≤◌, ◌∙◌, false, length, ap, sym, add-one, arith, below_more}
use Rattle.std.specs.Prelude.{flat_map}
use Rattle.cip_digraph.specs.rings.Alternating.{is_in}
use Rattle.cip_ring.specs.Neighbours.{next_within, within}
use Rattle.cip_ring.proofs.lemmas.Further.{next_done, no_shorter}
use Rattle.cip_ring.proofs.lemmas.Settled.{outside_all}
use Rattle.cip_ring.proofs.search.distance_to.Goals as goal

pub loop-taken-preserved : goal.loop-taken-preserved
loop-taken-preserved g c =
    let step = g.S.Neighbours.step c.args.steps.now in
    let old = c.loop-taken.reached in
    let counted : c.len-count.result ≡ length old = c.len-count.ensures in
    let out : is_in c.args.target old ≡ false = sym c.if-contains.ensures in
    record {
      value = c.in-Ok-step_on.ensures ∙ ap (next_within step) c.loop-taken.invariant.value
          ∙ sym (ap (within step c.args.from) (add-one c.loop-taken.taken));
      upto = rw (counted, c.in-Ok-step_on.ensures) (no_shorter old (flat_map step old));
      done = rw (counted, c.in-Ok-step_on.ensures) (next_done step old);
      before = below_more _ _ c.loop-taken.invariant.before
          (ap (is_in c.args.target) (sym c.loop-taken.invariant.value) ∙ out);
    }

pub returns-then-count-done : goal.returns-then-count-done
returns-then-count-done g c =
    let step = g.S.Neighbours.step c.args.steps.now in
    let old = c.loop-taken.reached in
    let counted : length old ≤ c.loop-taken.done = omega (arith, c.len-count.ensures, c.if-count-done.true) in
    let out : is_in c.args.target old ≡ false = sym c.if-contains.ensures in
    outside_all step c.args.from c.args.target c.args.most c.loop-taken.taken c.loop-taken.done old
    c.loop-taken.invariant.value c.loop-taken.invariant.done counted out c.loop-taken.invariant.before
