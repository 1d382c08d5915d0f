use Rattle.std.proofs.Common.{rules, ◌≡◌, ◌<◌, length}
use Rattle.cip_v3000.proofs.lemmas.FirstWords.{no_words, first_word}
use Rattle.cip_v3000.proofs.lines.word_splitter.next_word.Goals as goal

pub returns-then-is_empty-clause-none : goal.returns-then-is_empty-clause-none
returns-then-is_empty-clause-none c =
    let none : length c.trim_start_spaces-begun.result.now ≡ 0 = search rules in
    λ _. no_words c.args.text.now c.trim_start_spaces-begun.result.now c.trim_start_spaces-begun.ensures none

pub returns-else-is_empty-clause-some : goal.returns-else-is_empty-clause-some
returns-else-is_empty-clause-some c =
    let some : 0 < length c.trim_start_spaces-begun.result.now = search rules in
    (first_word c.args.text.now c.trim_start_spaces-begun.result.now c.word_end-end.result
    c.trim_start_spaces-begun.ensures some c.word_end-end.ensures.cut c.word_end-end.ensures.within
    c.word_end-end.ensures.space).words

pub returns-else-is_empty-clause-shorter : goal.returns-else-is_empty-clause-shorter
returns-else-is_empty-clause-shorter c =
    let some : 0 < length c.trim_start_spaces-begun.result.now = search rules in
    (first_word c.args.text.now c.trim_start_spaces-begun.result.now c.word_end-end.result
    c.trim_start_spaces-begun.ensures some c.word_end-end.ensures.cut c.word_end-end.ensures.within
    c.word_end-end.ensures.space).shorter
