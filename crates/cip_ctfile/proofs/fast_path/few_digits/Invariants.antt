use Rattle.std.proofs.Common.{◌≡◌, ◌≤◌, take, true}
use Rattle.std.specs.List.{list_all}
use Rattle.cip_text.specs.Numbers.{is_digit, value}
use Rattle.cip_ctfile.proofs.fast_path.few_digits.Given as goal

abbrev pub invariant-loop-byte : goal.invariant-loop-byte
invariant-loop-byte l = record {
  digits : list_all is_digit (take l.byte-index l.text) ≡ true;
  value : value (take l.byte-index l.text) ≡ l.sum;
  few : l.sum ≤ 999999;
}
