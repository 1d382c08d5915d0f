use Rattle.std.proofs.Common.{◌≡◌, min, take, true}
use Rattle.std.specs.List.{list_all}
use Rattle.cip_text.specs.Numbers.{is_digit, value}
use Rattle.cip_text.proofs.numbers.decimal_size.Given as goal

abbrev pub invariant-loop-place : goal.invariant-loop-place
invariant-loop-place l = record {
  digits : list_all is_digit (take l.place l.text) ≡ true;
  sum : l.sum ≡ min 10000000000 (value (take l.place l.text));
}
