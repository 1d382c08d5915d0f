use Rattle.std.proofs.Common.{◌≡◌, ◌≤◌, ◌+◌, ◌++◌, length}
use Rattle.std.specs.List.{concat}
use Rattle.cip_text.specs.Lines.{lines_of}
use Rattle.cip_text.specs.Places.{places_from, places_of}
use Rattle.cip_text.proofs.line_reader.lines.Given as goal

-- the places so far, and after them those of the lines that are left, are the places of all
abbrev pub invariant-loop-line : goal.invariant-loop-line
invariant-loop-line l =
    (l.lines ++ places_from l.start (lines_of l.rest) ≡ places_of l.bytes)
    × (l.start + length (concat (lines_of l.rest)) ≡ length l.bytes)
    × (length l.lines + length (lines_of l.rest) ≤ length l.bytes)

abbrev pub decreases-loop-line : goal.decreases-loop-line
decreases-loop-line l = length l.rest
