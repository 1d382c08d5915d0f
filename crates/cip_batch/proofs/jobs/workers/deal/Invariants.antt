use Rattle.std.proofs.Common.{◌≡◌, ◌<◌, ◌≤◌, All, length, vec_capacity, vec_len}
use Rattle.cip_batch.proofs.jobs.workers.deal.Given as goal

abbrev pub invariant-loop-job : goal.invariant-loop-job
invariant-loop-job g l = record {
  loads : length l.loads.items ≡ l.workers;
  all : length l.owners.items ≡ l.job-index;
  each : All (λ owner. owner < l.workers) l.owners.items;
  count : vec_len l.owners ≡ l.job-index;
  room : length l.jobs ≤ vec_capacity l.owners;
}
