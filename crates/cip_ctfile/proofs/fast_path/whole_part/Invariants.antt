use Rattle.std.proofs.Common.{◌≡◌, ◌≤◌, take, true}
use Rattle.std.specs.List.{list_all}
use Rattle.cip_text.specs.Numbers.{is_digit, value}
use Rattle.cip_ctfile.proofs.fast_path.whole_part.Given as goal

abbrev pub invariant-loop-place : goal.invariant-loop-place
invariant-loop-place l = record {
  digits : list_all is_digit (take l.place l.text) ≡ true;
  value : value (take l.place l.text) ≡ l.sum;
  few : l.sum ≤ 999999;
}
