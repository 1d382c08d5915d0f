use Rattle.std.proofs.Common.{◌≡◌, ◌≤◌, ◌-◌, take, drop, length, true}
use Rattle.std.specs.List.{list_all}
use Rattle.cip_text.specs.Numbers.{is_digit, value}
use Rattle.cip_v3000.specs.declared.lines.word_splitter.QuoteState.TheVariants.{Plain}
use Rattle.cip_v3000.specs.Words.{words_from, words_of}
use Rattle.cip_v3000.proofs.values.numbers.number_begun.Given as goal

abbrev pub invariant-loop-at : goal.invariant-loop-at
invariant-loop-at l = record {
  so_far : words_from Plain (take l.at l.text) (drop l.at l.text) ≡ words_of l.text;
  digits : list_all is_digit (take l.at l.text) ≡ true;
  value : value (take l.at l.text) ≡ l.sum;
  few : l.sum ≤ 999999;
  within : l.at ≤ length l.text;
}

abbrev pub decreases-loop-at : goal.decreases-loop-at
decreases-loop-at l = length l.text - l.at
