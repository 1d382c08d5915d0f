use Rattle.cip_io.proofs.lemmas.Growth.{appends_none}
use Rattle.cip_commands.specs.Trying.{answers_to}
use Rattle.cip_commands.proofs.lemmas.Counting.{summed}
use Rattle.cip_commands.proofs.trial.write_summary.Goals as goal

pub returns-in-Ok-clause-summed : goal.returns-in-Ok-clause-summed
returns-in-Ok-clause-summed g c =
    let trial = c.args.trial.now in
    summed (answers_to trial.series trial.labelling trial.series.records) c.in-Ok.count c.write_count.result
    (g.K.Sink.taken c.args.sink.now) (g.K.Sink.taken c.write_count.new.sink)
    c.in-Ok.ensures c.write_count.ensures.written c.write_count.ensures.flagged

pub returns-in-Err-clause-summed : goal.returns-in-Err-clause-summed
returns-in-Err-clause-summed g c = appends_none (g.K.Sink.taken c.args.sink.now)
