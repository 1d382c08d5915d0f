use Rattle.std.proofs.Common.{◌≡◌, ◌≤◌, ◌-◌, length, map, All}
use Rattle.cip_text.specs.Slices.{texts}
use Rattle.cip_v3000.specs.JoinedLines.{logical_lines}
use Rattle.cip_v3000.specs.Joining.{seen, with_before, rest_from, IsNumbered}
use Rattle.cip_v3000.proofs.lines.continuation.join_lines.Given as goal

abbrev pub invariant-loop-place : goal.invariant-loop-place
invariant-loop-place l = record {
  so_far : with_before (map seen l.found.items) (rest_from l.lines l.first l.place) ≡ logical_lines (texts l.lines);
  first : l.first ≤ l.place;
  numbered : All IsNumbered l.found.items;
}

abbrev pub decreases-loop-place : goal.decreases-loop-place
decreases-loop-place l = length l.lines - l.place
