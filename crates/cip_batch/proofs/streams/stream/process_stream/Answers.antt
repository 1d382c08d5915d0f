use Rattle.std.proofs.Common.{◌+◌, ap, subst}
use Rattle.std.proofs.lemmas.Bool.{false≢true}
use Rattle.cip_frame.specs.Framing.{Framing}
use Rattle.cip_batch.specs.Batches.{Gathered}
use Rattle.cip_batch.specs.Halting.{AnswersSource}
use Rattle.cip_batch.proofs.lemmas.Bounds.{takes_none}
use Rattle.cip_batch.proofs.lemmas.Faults.{memory_no_fault, memory_no_read_fault}
use Rattle.cip_batch.proofs.lemmas.Untold.{nothing_told}
use Rattle.cip_batch.proofs.streams.stream.process_stream.Goals as goal

pub returns-in_default : goal.returns-in_default
returns-in_default g c = record {
  ended = nothing_told (g.T.RecordProcessor.expected c.args.processor.now) c.args.limits (g.S.Source.left c.args.source.now)
      (g.K.Sink.taken c.args.sink.now);
  whole = λ is. absurd (false≢true is);
  read_fault = memory_no_read_fault;
  bounded = takes_none (c.args.limits.input + 1) (g.S.Source.left c.args.source.now);
  source_fault = memory_no_read_fault;
  sink_fault = memory_no_fault;
}

pub returns-in_default-reserve : goal.returns-in_default-reserve
returns-in_default-reserve g c = record {
  ended = nothing_told (g.T.RecordProcessor.expected c.args.processor.now) c.args.limits (g.S.Source.left c.args.source.now)
      (g.K.Sink.taken c.args.sink.now);
  whole = λ is. absurd (false≢true is);
  read_fault = memory_no_read_fault;
  bounded = takes_none (c.args.limits.input + 1) (g.S.Source.left c.args.source.now);
  source_fault = memory_no_read_fault;
  sink_fault = memory_no_fault;
}

pub answer_pieces-requires-clause-first : goal.answer_pieces-requires-clause-first
answer_pieces-requires-clause-first g c κs within = ap (λ (b : Gathered _). b.first) c.new-batch.ensures

pub answer_pieces-requires-clause-none : goal.answer_pieces-requires-clause-none
answer_pieces-requires-clause-none g c κs within = ap (λ (b : Gathered _). b.records) c.new-batch.ensures

pub answer_pieces-requires-clause-piece : goal.answer_pieces-requires-clause-piece
answer_pieces-requires-clause-piece g c κs within = c.in-Ok.ensures

pub answer_pieces-requires-clause-fresh : goal.answer_pieces-requires-clause-fresh
answer_pieces-requires-clause-fresh g c κs within = record {
  holds = c.new.ensures.holds;
  empty = ap (λ (f : Framing). f.waiting) c.new.ensures.empty;
  within = ap (λ (f : Framing). f.limit) c.new.ensures.empty;
}

pub returns : goal.returns
returns g c =
    let answered = subst (λ (b : Gathered _). AnswersSource (g.T.RecordProcessor.expected b.processor) c.args.limits
    c.answer_pieces.result (g.S.Source.left c.args.source.now)
    (g.S.Source.left c.answer_pieces.new.source) (g.K.Sink.taken c.args.sink.now)
    (g.K.Sink.taken c.answer_pieces.new.sink)) c.new-batch.ensures c.answer_pieces.ensures.answered in
    record {
      ended = answered.ended;
      whole = answered.whole;
      read_fault = answered.read_fault;
      bounded = answered.bounded;
      source_fault = c.answer_pieces.ensures.source_fault;
      sink_fault = c.answer_pieces.ensures.sink_fault;
    }
