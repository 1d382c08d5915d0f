use Rattle.std.proofs.Common.{◌≡◌, map, ap, ◌∙◌}
use Rattle.cip_batch.specs.Batches.{output_of, told_from}
use Rattle.cip_batch.proofs.lemmas.Batches.{no_memory}
use Rattle.cip_batch.proofs.lemmas.Faults.{memory_no_fault, stays}
use Rattle.cip_batch.proofs.jobs.batch.Batch.answer.Goals as goal

pub returns-in_default-clause-answered : goal.returns-in_default-clause-answered
returns-in_default-clause-answered g c =
    let batch = c.args.self.now in
    no_memory (g.T.RecordProcessor.expected batch.processor) batch.first batch.records (g.K.Sink.taken c.args.sink.now)

pub returns-in_default-clause-fault : goal.returns-in_default-clause-fault
returns-in_default-clause-fault g c = memory_no_fault

pub returns-in_default-clause-later : goal.returns-in_default-clause-later
returns-in_default-clause-later g c = stays (g.K.Sink.faults c.args.sink.now)

pub returns-clause-answered : goal.returns-clause-answered
returns-clause-answered g c =
    let batch = c.args.self.now in
    let expected = g.T.RecordProcessor.expected batch.processor in
    let output : c.deref-2.result.now ≡ told_from expected batch.first batch.records =
    c.deref-2.ensures.value ∙ c.in-Ok.ensures
    ∙ ap (map (λ w. output_of (g.T.RecordProcessor.expected w.processor.now) w.number w.bytes)) c.deref.ensures.value
    ∙ c.self.invariant ∙ ap (λ b. told_from (g.T.RecordProcessor.expected b.processor) b.first b.records) c.self.view_is in
    c.write_outputs.ensures.answered expected batch.first batch.records output

pub returns-clause-fault : goal.returns-clause-fault
returns-clause-fault g c = c.write_outputs.ensures.fault

pub returns-clause-later : goal.returns-clause-later
returns-clause-later g c = c.write_outputs.ensures.later
