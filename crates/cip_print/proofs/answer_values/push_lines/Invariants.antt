use Rattle.std.proofs.Common.{◌≤◌, ◌≡◌, ◌+◌, ◌++◌, drop, length}
use Rattle.std.specs.List.{filter_map}
use Rattle.cip_print.specs.Values.{unit_line}
use Rattle.cip_print.proofs.answer_values.push_lines.Given as goal

abbrev pub invariant-loop-place : goal.invariant-loop-place
invariant-loop-place l = record {
  so_far : l.values ++ filter_map unit_line (drop l.place l.units) ≡ l.fn.values ++ filter_map unit_line l.units;
  few : length l.values ≤ l.place + 1;
}
