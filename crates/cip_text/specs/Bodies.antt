-- A record by its lines: those before its terminator line, and what is from that line on. CTfile Formats, SDfile.
use Rattle.std.specs.Prelude.{◌≡◌, ◌≤◌, ℕ, List, [], ◌∷◌, length, map, if◌then◌else◌}
use Rattle.std.specs.List.{concat}
use Rattle.cip_text.specs.Lines.{lines_of, content_of}
use Rattle.cip_text.specs.Kinds.{is_terminator}

abbrev pub body_lines : List (List ℕ) → List (List ℕ)
body_lines [] = []
body_lines (line ∷ lines) = if is_terminator (content_of line) then [] else line ∷ body_lines lines

abbrev pub body_contents : List ℕ → List (List ℕ)
body_contents bytes = map content_of (body_lines (lines_of bytes))

-- the terminator line, and what follows it
abbrev pub closing_lines : List (List ℕ) → List (List ℕ)
closing_lines [] = []
closing_lines (line ∷ lines) = if is_terminator (content_of line) then line ∷ lines else closing_lines lines

-- a record before its terminator line, and from it on

abbrev pub body : List ℕ → List ℕ
body bytes = concat (body_lines (lines_of bytes))

abbrev pub closing : List ℕ → List ℕ
closing bytes = concat (closing_lines (lines_of bytes))

-- the lines of a record at hand: the contents of those before its terminator line, no more of them than bytes, and
-- what is from that line on
pub record AreLinesOf (bytes : List ℕ) (contents : List (List ℕ)) (rest : List ℕ) : Type 0 where
  pub before : contents ≡ body_contents bytes
  pub few : length contents ≤ length bytes
  pub behind : rest ≡ closing bytes
