use Rattle.cip_commands.specs.Statuses.{streams}
use Rattle.cip_commands.specs.Telling.{expected_output}
use Rattle.cip_commands.proofs.lemmas.Answered.{meant, told_missed}
use Rattle.cip_commands.proofs.commands.process_records.Goals as goal

pub returns-clause-meant : goal.returns-clause-meant
returns-clause-meant g c =
    let processor = c.args.processor.now in
    rw c.after.ensures (meant processor.task (expected_output processor.task processor.labelling) c.args.limits
    c.process_stream-answered.result _ _ (record {
      ended = c.process_stream-answered.ensures.ended;
      whole = c.process_stream-answered.ensures.whole;
      read_fault = c.process_stream-answered.ensures.read_fault;
      source_fault = c.process_stream-answered.ensures.source_fault;
      sink_fault = c.process_stream-answered.ensures.sink_fault;
    }))

pub returns-clause-missed : goal.returns-clause-missed
returns-clause-missed g c =
    let processor = c.args.processor.now in
    rw c.after.ensures (told_missed processor.task (expected_output processor.task processor.labelling) c.args.limits
    c.process_stream-answered.result
    (streams (g.S.Source.left c.args.source.now) (g.S.Source.faults c.args.source.now)
    (g.K.Sink.taken c.args.sink.now) (g.K.Sink.faults c.args.sink.now))
    (streams (g.S.Source.left c.process_stream-answered.new.source)
    (g.S.Source.faults c.process_stream-answered.new.source)
    (g.K.Sink.taken c.process_stream-answered.new.sink) (g.K.Sink.faults c.process_stream-answered.new.sink)) (record {
      ended = c.process_stream-answered.ensures.ended;
      whole = c.process_stream-answered.ensures.whole;
      read_fault = c.process_stream-answered.ensures.read_fault;
      source_fault = c.process_stream-answered.ensures.source_fault;
      sink_fault = c.process_stream-answered.ensures.sink_fault;
    }))
