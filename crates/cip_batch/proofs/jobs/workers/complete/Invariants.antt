use Rattle.std.proofs.Common.{◌≡◌, ◌≤◌, length, map, take, vec_capacity, vec_len}
use Rattle.cip_batch.specs.Entries.{ArePlaced}
use Rattle.cip_batch.proofs.jobs.workers.complete.Given as goal

abbrev pub invariant-loop-place : goal.invariant-loop-place
invariant-loop-place g l = record {
  found : ArePlaced g.J.Job.answer l.jobs l.found;
  answers : l.answers.items ≡ map g.J.Job.answer (take l.place l.jobs);
  count : vec_len l.answers ≡ l.place;
  room : length l.jobs ≤ vec_capacity l.answers;
}
