use Rattle.std.proofs.Common.{◌≡◌, arith, rules, subst, ◌∙◌}
use Rattle.std.specs.Io.KnownBytes.{Appends}
use Rattle.cip_io.proofs.lemmas.Growth.{appends_none}
use Rattle.cip_io.specs.Growth.{AppendsPrefix}
use Rattle.cip_words.specs.Ranges.{Series}
use Rattle.cip_commands.specs.Making.{made_text, GrewByMade}
use Rattle.cip_commands.proofs.lemmas.Made.{broken_off, one_more}
use Rattle.cip_commands.proofs.make.write_made.Goals as goal

pub loop-before-init : goal.loop-before-init
loop-before-init g c = record { written = appends_none (g.K.Sink.taken c.args.sink.now); later = omega arith }

pub returns-in_default-clause-made : goal.returns-in_default-clause-made
returns-in_default-clause-made g c =
    let old = g.K.Sink.taken c.args.sink.now in
    let now = g.K.Sink.taken c.loop-before.sink in
    subst (λ (made : Series). GrewByMade made.start made.records old now) c.series.view_is
    (record { count = c.loop-before.before; few = omega arith; written = c.loop-before.invariant.written })

pub returns-in_default-pushed-clause-made : goal.returns-in_default-pushed-clause-made
returns-in_default-pushed-clause-made g c =
    let old = g.K.Sink.taken c.args.sink.now in
    let now = g.K.Sink.taken c.push_all-pushed.new.sink in
    subst (λ (made : Series). AppendsPrefix old now (made_text made.start made.records)) c.series.view_is
    (broken_off c.series.inside.start c.loop-before.before c.series.inside.records old
    (g.K.Sink.taken c.loop-before.sink) now (search rules) c.loop-before.invariant.written
    (subst (λ piece. AppendsPrefix (g.K.Sink.taken c.loop-before.sink) now piece)
    (c.deref.ensures.value ∙ c.in-Ok.ensures.made) c.push_all-pushed.ensures.prefix))

pub returns-in_default-pushed-clause-fault : goal.returns-in_default-pushed-clause-fault
returns-in_default-pushed-clause-fault g c =
    λ _. omega (arith, c.in_default-pushed.ensures.cause.failed, c.loop-before.invariant.later)

pub returns-in_default-pushed-clause-later : goal.returns-in_default-pushed-clause-later
returns-in_default-pushed-clause-later g c =
    omega (arith, c.push_all-pushed.ensures.cause.later, c.loop-before.invariant.later)

pub returns-in_default-clause-later : goal.returns-in_default-clause-later
returns-in_default-clause-later g c = c.loop-before.invariant.later

pub loop-before-preserved : goal.loop-before-preserved
loop-before-preserved g c =
    let now = g.K.Sink.taken c.push_all-pushed.new.sink in
    record {
      written = one_more c.series.inside.start c.loop-before.before (g.K.Sink.taken c.args.sink.now)
          (g.K.Sink.taken c.loop-before.sink) now c.loop-before.invariant.written
          (subst (λ piece. Appends (g.K.Sink.taken c.loop-before.sink) now piece)
          (c.deref.ensures.value ∙ c.in-Ok.ensures.made) c.in-Ok-pushed.ensures.whole);
      later = omega (arith, c.push_all-pushed.ensures.cause.later, c.loop-before.invariant.later);
    }

pub returns-clause-made : goal.returns-clause-made
returns-clause-made g c =
    let old = g.K.Sink.taken c.args.sink.now in
    let now = g.K.Sink.taken c.loop-before.sink in
    let all : c.loop-before.before ≡ c.series.inside.records = omega arith in
    subst (λ (made : Series). Appends old now (made_text made.start made.records)) c.series.view_is
    (subst (λ count. Appends old now (made_text c.series.inside.start count)) all c.loop-before.invariant.written)

pub returns-clause-later : goal.returns-clause-later
returns-clause-later g c = c.loop-before.invariant.later
