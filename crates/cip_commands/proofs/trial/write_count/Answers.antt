use Rattle.std.proofs.Common.{ap, subst, ◌∙◌}
use Rattle.std.specs.Io.KnownBytes.{Appends}
use Rattle.cip_io.proofs.lemmas.Growth.{appends_none}
use Rattle.cip_io.specs.Growth.{AppendsPrefix}
use Rattle.cip_print.specs.Tallies.{summary_line}
use Rattle.cip_commands.specs.Trying.{Counted}
use Rattle.cip_commands.proofs.trial.write_count.Goals as goal

pub returns-in_default-clause-written : goal.returns-in_default-clause-written
returns-in_default-clause-written g c = appends_none (g.K.Sink.taken c.args.sink.now)

pub returns-in-Ok-push_all-clause-written : goal.returns-in-Ok-push_all-clause-written
returns-in-Ok-push_all-clause-written g c =
    subst (Appends (g.K.Sink.taken c.args.sink.now) (g.K.Sink.taken c.push_all.new.sink))
    (c.deref.ensures.value ∙ c.in-Ok.ensures ∙ ap (λ (count : Counted). summary_line count.counts) c.count.view_is)
    c.in-Ok-push_all.ensures.whole

pub returns-clause-written : goal.returns-clause-written
returns-clause-written g c =
    subst (AppendsPrefix (g.K.Sink.taken c.args.sink.now) (g.K.Sink.taken c.push_all.new.sink))
    (c.deref.ensures.value ∙ c.in-Ok.ensures ∙ ap (λ (count : Counted). summary_line count.counts) c.count.view_is)
    c.push_all.ensures.prefix

pub returns-clause-fault : goal.returns-clause-fault
returns-clause-fault g c = λ _. c.in-Err.ensures.cause.failed
