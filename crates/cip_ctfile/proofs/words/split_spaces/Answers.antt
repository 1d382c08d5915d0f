use Rattle.std.proofs.Common.{rules, tests, ◌∙◌}
use Rattle.std.proofs.lemmas.Iterator.Consumers.{map_from_collect, YieldsList-from_filter, YieldsList-from_first, YieldsList-at}
use Rattle.cip_ctfile.specs.Spaces.{spaced_words_of}
use Rattle.cip_ctfile.proofs.lemmas.SpacedParts.{parts_given}
use Rattle.cip_ctfile.proofs.words.split_spaces.Goals as goal

pub returns : goal.returns
unfolding spaced_words_of
returns c =
    map_from_collect _ c.collect.ensures.ran (YieldsList-from_filter _ _
    (YieldsList-at c.filter.ensures.source
    (YieldsList-from_first (λ x. x.now) (λ rest. rest) _ (c.split_str.ensures.value ∙ parts_given c.args.text.now)))
    c.filter.ensures.closure (λ x r q k. search (rules, tests)))
