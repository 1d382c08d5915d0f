use Rattle.std.proofs.Common.{◌≡◌, min, take, true}
use Rattle.std.specs.List.{list_all}
use Rattle.cip_text.specs.Numbers.{is_digit, value}
use Rattle.cip_text.proofs.numbers.parse_digits.Given as goal

abbrev pub invariant-loop-byte : goal.invariant-loop-byte
invariant-loop-byte l = record {
  digits : list_all is_digit (take l.byte-index l.text) ≡ true;
  sum : l.sum ≡ min 10000000000 (value (take l.byte-index l.text));
}
