use Rattle.cip_batch.specs.Entries.{AreAnswers, ArePlaced}
use Rattle.cip_batch.proofs.jobs.workers.put_all.Given as goal

abbrev pub invariant-loop-entry : goal.invariant-loop-entry
invariant-loop-entry g l = record {
  entries : AreAnswers g.J.Job.answer l.jobs l.entry-iterator.rest.items;
  found : ArePlaced g.J.Job.answer l.jobs l.found;
}
