use Rattle.std.proofs.Common.{◌≤◌, ◌<◌, All, length, take, slice_index}
use Rattle.cip_batch.proofs.jobs.workers.least_place.Given as goal

abbrev pub invariant-loop-place : goal.invariant-loop-place
invariant-loop-place l = record {
  within : l.least < length l.loads;
  least : All (λ load. slice_index l.loads l.least ≤ load) (take l.place l.loads);
}
