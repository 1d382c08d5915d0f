use Rattle.std.proofs.Common.{arith, None, IfSome}
use Rattle.std.proofs.lemmas.List.Elements.{All-push, All-same}
use Rattle.cip_batch.specs.Entries.{IsAnswer}
use Rattle.cip_batch.proofs.jobs.workers.no_answers.Goals as goal

pub loop-preserved : goal.loop-preserved
loop-preserved g c =
    record {
      placed = All-same (λ s. IfSome s (IsAnswer g.J.Job.answer c.args.jobs.now)) _ _ c.push_reserved.ensures.items
          (All-push (λ s. IfSome s (IsAnswer g.J.Job.answer c.args.jobs.now)) c.loop.found.items None
          c.loop.invariant.placed tt);
      count = omega (arith, c.push_reserved.ensures.len, c.loop.invariant.count);
      room = omega (arith, c.push_reserved.ensures.capacity, c.loop.invariant.room);
    }
