use Rattle.std.proofs.Common.{sym}
use Rattle.std.proofs.lemmas.List.Elements.{All-head, All-rest, All-same}
use Rattle.cip_batch.specs.Entries.{IsAnswer}
use Rattle.cip_batch.proofs.jobs.workers.put_all.Goals as goal

pub loop-entry-preserved : goal.loop-entry-preserved
loop-entry-preserved g c = record {
  entries = All-rest (IsAnswer g.J.Job.answer c.args.jobs.now) c.in-Some.entry c.next.new.self.rest.items
      c.loop-entry.entry-iterator.rest.items c.in-Some.ensures.steps.0 c.loop-entry.invariant.entries;
  found = c.put.ensures;
}

pub put-requires-clause-entry : goal.put-requires-clause-entry
put-requires-clause-entry g c κs within =
    let is = IsAnswer g.J.Job.answer c.args.jobs.now in
    All-head is c.in-Some.entry c.next.new.self.rest.items
    (All-same is _ c.loop-entry.entry-iterator.rest.items (sym c.in-Some.ensures.steps.0) c.loop-entry.invariant.entries)

pub put-requires-clause-found : goal.put-requires-clause-found
put-requires-clause-found g c κs within = c.loop-entry.invariant.found

pub loop-entry-init : goal.loop-entry-init
loop-entry-init g c = record {
  entries = All-same (IsAnswer g.J.Job.answer c.args.jobs.now) _ _ c.into_iter-entry-iterator.ensures.into_iter_gives.0
      c.requires.entries;
  found = c.requires.found;
}
