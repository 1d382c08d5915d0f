use Rattle.std.proofs.Common.{◌≤◌}
use Rattle.cip_batch.proofs.streams.output.room_for.Given as goal

abbrev pub invariant-loop-one : goal.invariant-loop-one
invariant-loop-one g l = l.room ≤ 262144
