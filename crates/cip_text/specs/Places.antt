-- Where lines are in a text, in bytes from 0. Own.
use Rattle.std.specs.Prelude.{◌≤◌, ℕ, List, [], ◌∷◌, ◌+◌, ◌-◌, drop, length, take}
use Rattle.cip_text.specs.declared.line_reader.Line.{Line}
use Rattle.cip_text.specs.Lines.{lines_of, content_of}

-- the place of a line that begins here
abbrev pub place_at : ℕ → List ℕ → Line
place_at start line = record { start = start; end = start + length (content_of line); next = start + length line }

-- the places of lines that follow one another from here on
abbrev pub places_from : ℕ → List (List ℕ) → List Line
places_from start [] = []
places_from start (line ∷ lines) = place_at start line ∷ places_from (start + length line) lines

abbrev pub places_of : List ℕ → List Line
places_of bytes = places_from 0 (lines_of bytes)

-- what is at a place
abbrev pub text_at : List ℕ → Line → List ℕ
text_at bytes line = take (line.end - line.start) (drop line.start bytes)

-- the place lies within n bytes
pub record IsWithin (bytes : ℕ) (line : Line) : Type 0 where
  pub content : line.start ≤ line.end
  pub end : line.end ≤ line.next
  pub text : line.next ≤ bytes
