use Rattle.std.proofs.Common.{length}
use Rattle.gate_differential.proofs.records.compare_waiting.Given as goal

abbrev pub decreases-loop-record : goal.decreases-loop-record
decreases-loop-record g l = length l.framer.waiting
