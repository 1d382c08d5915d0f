use Rattle.std.proofs.Common.{◌∙◌}
use Rattle.cip_words.proofs.lemmas.Given.{named, pairs_end, unnamed}
use Rattle.cip_words.proofs.option_values.are_name_value_pairs.Goals as goal

pub returns-then-not-is_name : goal.returns-then-not-is_name
returns-then-not-is_name c =
    unnamed _ c.as_bytes.result.now c.loop-rest.rest.now c.word-item.result c.is_name.result c.in-len2-up.len_at_least
    c.word-item.is c.as_bytes.ensures.value c.is_name.ensures c.if-not-is_name.true ∙ c.loop-rest.invariant

pub loop-rest-preserved : goal.loop-rest-preserved
loop-rest-preserved c =
    named _ c.as_bytes.result.now c.loop-rest.rest.now c.word-item.result c.is_name.result c.in-len2-up.len_at_least
    c.word-item.is c.as_bytes.ensures.value c.is_name.ensures c.if-not-is_name.false ∙ c.loop-rest.invariant

pub returns : goal.returns
returns c =
    c.is_empty.ensures ∙ pairs_end _ c.loop-rest.rest.now c.in_default.len_below ∙ c.loop-rest.invariant
