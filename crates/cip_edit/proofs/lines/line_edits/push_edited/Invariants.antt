use Rattle.std.proofs.Common.{◌≡◌, ◌≤◌, ◌+◌, length, ◌++◌}
use Rattle.std.specs.List.{concat}
use Rattle.cip_text.specs.Lines.{lines_of}
use Rattle.cip_text.specs.Bodies.{body_lines, closing}
use Rattle.cip_edit.specs.Edits.{edited_lines, edited}
use Rattle.cip_edit.proofs.lines.line_edits.push_edited.Given as goal

abbrev pub invariant-loop-line : goal.invariant-loop-line
invariant-loop-line g l = record {
  so_far : l.text.items ++ (concat (edited_lines (g.E.LineEdit.edit l.edit) l.number
      (body_lines (lines_of l.rest))) ++ closing l.rest)
      ≡ edited (g.E.LineEdit.edit l.edit) l.bytes;
  few : l.number + length l.rest ≤ length l.bytes;
}

abbrev pub decreases-loop-line : goal.decreases-loop-line
decreases-loop-line g l = length l.rest
