use Rattle.std.proofs.Common.{◌≡◌, ◌≤◌, ◌+◌, ◌++◌, length}
use Rattle.cip_text.specs.Bodies.{body_contents, closing}
use Rattle.cip_text.specs.Slices.{texts}
use Rattle.cip_text.proofs.record_lines.push_contents.Given as goal

abbrev pub invariant-loop-line : goal.invariant-loop-line
invariant-loop-line l = record {
  so_far : texts l.contents.items ++ body_contents l.rest ≡ body_contents l.bytes;
  closing : closing l.rest ≡ closing l.bytes;
  few : length l.contents.items + length l.rest ≤ length l.bytes;
}

abbrev pub decreases-loop-line : goal.decreases-loop-line
decreases-loop-line l = length l.rest
