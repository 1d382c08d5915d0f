use Rattle.std.proofs.Common.{◌≡◌, ◌≤◌, ◌<◌, length}
use Rattle.cip_batch.proofs.lemmas.Progressing.{Progress}
use Rattle.cip_batch.proofs.streams.stream.answer_pieces.Given as goal

abbrev pub invariant-loop-count : goal.invariant-loop-count
invariant-loop-count g l = record {
  progress : Progress (g.T.RecordProcessor.expected l.fn.batch.processor) l.fn.limits l.room l.verdict
      (g.S.Source.left l.fn.source) (g.S.Source.left l.source) (g.K.Sink.taken l.fn.sink) (g.K.Sink.taken l.sink)
      l.inflow.framer l.batch.first l.batch.records;
  processor : l.batch.processor ≡ l.fn.batch.processor;
  source_later : g.S.Source.faults l.fn.source ≤ g.S.Source.faults l.source;
  sink_later : g.K.Sink.faults l.fn.sink ≤ g.K.Sink.faults l.sink;
  piece : 0 < length l.inflow.piece.items;
}

abbrev pub decreases-loop-count : goal.decreases-loop-count
decreases-loop-count g l = l.room
