use Rattle.std.proofs.Common.{◌∙◌}
use Rattle.cip_words.proofs.lemmas.Given.{given_first, given_behind, none_given}
use Rattle.cip_words.proofs.option_values.first_given.Goals as goal

pub returns-then-eq : goal.returns-then-eq
returns-then-eq c =
    given_first _ c.as_bytes.result.now _ c.loop-rest.rest.now c.word-item.result c.value-item.result c.eq.result
    c.in-len2-up.len_at_least c.word-item.is c.value-item.is c.as_bytes.ensures.value c.as_bytes-then-eq.ensures.value
    c.eq.ensures c.if-eq.true ∙ c.loop-rest.invariant

pub loop-rest-preserved : goal.loop-rest-preserved
loop-rest-preserved c =
    given_behind _ c.as_bytes.result.now c.loop-rest.rest.now c.word-item.result c.eq.result c.in-len2-up.len_at_least
    c.word-item.is c.as_bytes.ensures.value c.eq.ensures c.if-eq.false ∙ c.loop-rest.invariant

pub returns : goal.returns
returns c = none_given c.args.name.now c.loop-rest.rest.now c.in_default.len_below ∙ c.loop-rest.invariant
