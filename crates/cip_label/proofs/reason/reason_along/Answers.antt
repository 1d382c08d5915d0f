use Rattle.std.proofs.Common.{◌∙◌, sym, arith}
use Rattle.cip_label.specs.Labelling.{as_reason}
use Rattle.cip_label.specs.Pairwise.{decided_at}
use Rattle.cip_label.proofs.lemmas.PlaceLists.{next_decided, all_decided}
use Rattle.cip_label.proofs.reason.reason_along.Goals as goal

pub loop-next-preserved : goal.loop-next-preserved
loop-next-preserved c = record {
  so_far =
      next_decided (decided_at c.args.count c.args.decided.now) c.args.places.now c.loop-next.next
      c.get-above.result.now c.get.result.now (as_reason c.loop-next.reason)
      (as_reason c.with_decision-reason.result) _ c.loop-next.invariant.some c.get-above.ensures c.get.ensures
      c.decided_at-decision.ensures c.with_decision-reason.ensures
      ∙ c.loop-next.invariant.so_far;
  some = omega arith;
}

pub returns : goal.returns
returns c =
    all_decided (decided_at c.args.count c.args.decided.now) c.args.places.now c.loop-next.next
    (as_reason c.loop-next.reason) c.loop-next.invariant.some
    (rw (sym c.len-next-end.ensures.counted) c.loop-next-test.false)
    ∙ c.loop-next.invariant.so_far
