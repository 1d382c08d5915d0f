use Rattle.std.proofs.Common.{◌≡◌, ◌≤◌, ◌+◌, length, ◌++◌}
use Rattle.std.specs.List.{concat}
use Rattle.cip_text.specs.Lines.{lines_of}
use Rattle.cip_text.specs.Bodies.{body_lines}
use Rattle.cip_item.specs.Parts.{kept_lines, without_label_items}
use Rattle.cip_text.specs.Bodies.{closing}
use Rattle.cip_item.proofs.label_items.put_kept.Given as goal

abbrev pub invariant-loop-line : goal.invariant-loop-line
invariant-loop-line l = record {
  so_far : l.text.items ++ (concat (kept_lines l.part (body_lines (lines_of l.rest))) ++ closing l.rest)
      ≡ l.initial.text.items ++ without_label_items l.lines;
  few : length l.text.items + length l.rest ≤ length l.initial.text.items + length l.lines;
}

abbrev pub decreases-loop-line : goal.decreases-loop-line
decreases-loop-line l = length l.rest
