use Rattle.std.proofs.Common.{◌++◌, ◌∙◌, ap, subst}
use Rattle.cip_io.specs.Growth.{AppendsPrefix, TakesFront}
use Rattle.cip_batch.specs.Batches.{Output}
use Rattle.cip_batch.proofs.streams.output.push_text.Goals as goal

pub returns-in-Ok : goal.returns-in-Ok
returns-in-Ok g c = record {
  verdict = ap (λ (output : Output _). output.verdict) c.one.view_is;
  taken = subst (λ text. TakesFront (g.K.Sink.taken c.args.sink.now) (g.K.Sink.taken c.push.new.sink)
      (c.args.joined.now ++ text) c.push.new.self)
      (c.deref.ensures.value ∙ ap (λ (output : Output _). output.text) c.one.view_is) c.in-Ok.ensures.taken;
  prefix = tt;
  cause = record { later = c.push.ensures.cause.later; failed = tt };
}

pub returns-in-Err : goal.returns-in-Err
returns-in-Err g c = record {
  verdict = tt;
  taken = tt;
  prefix = subst (λ text. AppendsPrefix (g.K.Sink.taken c.args.sink.now) (g.K.Sink.taken c.push.new.sink)
      (c.args.joined.now ++ text))
      (c.deref.ensures.value ∙ ap (λ (output : Output _). output.text) c.one.view_is) c.in-Err.ensures.prefix;
  cause = record { later = c.push.ensures.cause.later; failed = c.in-Err.ensures.cause.failed };
}
