use Rattle.cip_v3000.proofs.lemmas.NumberWords.{number_next}
use Rattle.cip_v3000.proofs.values.numbers.next_number.Goals as goal

pub returns-in-Some-clause-some : goal.returns-in-Some-clause-some
returns-in-Some-clause-some c =
    number_next c.args.most c.args.text.now c.trim_start_spaces-begun.result.now c.in-Some.number c.in-Some.end
    c.at_most.result c.trim_start_spaces-begun.ensures c.in-Some.ensures c.at_most.ensures.value c.at_most.ensures.range

pub returns-in-Some-next_word-clause-some : goal.returns-in-Some-next_word-clause-some
returns-in-Some-next_word-clause-some c = record {
  word = c.in-Some-next_word.word.now;
  split = c.in-Some-next_word.ensures.some;
  is = c.parse_number.ensures.value;
  few = c.parse_number.ensures.range;
}
