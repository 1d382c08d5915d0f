use Rattle.std.proofs.Common.{arith}
use Rattle.std.proofs.lemmas.Int.{ints, to_z-of_z}
use mir.Syntax.{w64}
use Rattle.cip_v3000.proofs.lemmas.NumberWords.{decimal_first}
use Rattle.cip_v3000.proofs.values.numbers.next_coordinate.Goals as goal

pub returns-in-Some-clause-some : goal.returns-in-Some-clause-some
returns-in-Some-clause-some c =
    let nearer = c.in-Some.ensures.small in
    decimal_first c.args.text.now c.trim_start_spaces-begun.result.now _ c.in-Some.number c.in-Some.end
    c.trim_start_spaces-begun.ensures (to_z-of_z w64 c.in-Some.number (omega (arith, ints, nearer)))
    c.in-Some.ensures.value nearer

pub returns-in-Some-next_word-clause-some : goal.returns-in-Some-next_word-clause-some
returns-in-Some-next_word-clause-some c = record {
  word = c.in-Some-next_word.word.now;
  split = c.in-Some-next_word.ensures.some;
  value = c.coordinate.ensures.value;
  nearer = c.coordinate.ensures.small;
}
