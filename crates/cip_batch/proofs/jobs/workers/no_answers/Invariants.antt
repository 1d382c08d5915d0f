use Rattle.std.proofs.Common.{◌≡◌, ◌≤◌, length, vec_capacity, vec_len}
use Rattle.cip_batch.specs.Entries.{ArePlaced}
use Rattle.cip_batch.proofs.jobs.workers.no_answers.Given as goal

abbrev pub invariant-loop : goal.invariant-loop
invariant-loop g l = record {
  placed : ArePlaced g.J.Job.answer l.jobs l.found.items;
  count : vec_len l.found ≡ l.counter;
  room : length l.jobs ≤ vec_capacity l.found;
}
