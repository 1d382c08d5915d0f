use Rattle.std.proofs.Common.{◌≡◌, ◌≤◌, ◌<◌, ◌+◌, ◌++◌, ◌^◌, length}
use Rattle.cip_batch.specs.Batches.{Advances}
use Rattle.cip_batch.proofs.jobs.batch.process_complete_records.Given as goal

abbrev pub invariant-loop-next : goal.invariant-loop-next
invariant-loop-next g l = record {
  so_far : Advances (g.T.RecordProcessor.expected l.initial.batch.processor) l.initial.batch.first
      (l.initial.batch.records ++ l.initial.framer.waiting) l.batch.first (l.batch.records ++ l.framer.waiting)
      l.verdict (g.K.Sink.taken l.initial.sink) (g.K.Sink.taken l.sink);
  room : l.batch.first + length (l.batch.records ++ l.framer.waiting) < 2 ^ 64;
  processor : l.batch.processor ≡ l.initial.batch.processor;
  rest : l.framer ≡ record l.initial.framer { waiting = l.framer.waiting };
  later : g.K.Sink.faults l.initial.sink ≤ g.K.Sink.faults l.sink;
}

abbrev pub decreases-loop-next : goal.decreases-loop-next
decreases-loop-next g l = length l.framer.waiting
