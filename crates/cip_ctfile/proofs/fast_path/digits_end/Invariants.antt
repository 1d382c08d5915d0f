use Rattle.std.proofs.Common.{◌≡◌, ◌≤◌, ◌-◌, take, length, true}
use Rattle.std.specs.List.{list_all}
use Rattle.cip_text.specs.Numbers.{is_digit}
use Rattle.cip_ctfile.proofs.fast_path.digits_end.Given as goal

abbrev pub invariant-loop-end : goal.invariant-loop-end
invariant-loop-end l = record {
  digits : list_all is_digit (take l.end l.text) ≡ true;
  within : l.end ≤ length l.text;
}

abbrev pub decreases-loop-end : goal.decreases-loop-end
decreases-loop-end l = length l.text - l.end
