-- The records of a stream, and what follows the last of them. CTfile Formats, SDfile; the blank tail and a last record
-- without its terminator line are own.
use Rattle.std.specs.Prelude.{ℕ, List, [], ◌∷◌, ◌++◌, Bool, ◌==◌, ◌&&◌, fold, length, if◌then◌else◌}
use Rattle.std.specs.List.{list_all}
use Rattle.cip_text.specs.Lines.{line_feed, lines_of, contents_of, ends_with_byte, content_of}
use Rattle.cip_text.specs.Kinds.{is_blank, is_terminator}
use Rattle.cip_frame.specs.declared.record.Tail.{Tail}
use Rattle.cip_frame.specs.declared.record.Tail.TheVariants.{Nothing, Blank, Last}

-- a stream that is cut after some of its lines: the parts before the cuts, and the rest after the last cut
pub record Cut : Type 0 where
  pub whole : List (List ℕ)
  pub rest : List ℕ

abbrev pub with_first : List ℕ → Cut → Cut
with_first part cut = record { whole = part ∷ cut.whole; rest = cut.rest }

abbrev pub joined_to : List ℕ → List (List ℕ) → List ℕ → Cut
joined_to front [] rest = record { whole = []; rest = front ++ rest }
joined_to front (part ∷ parts) rest = record { whole = (front ++ part) ∷ parts; rest = rest }

-- the same cuts, with these bytes in front
abbrev pub with_front : List ℕ → Cut → Cut
with_front front cut = joined_to front cut.whole cut.rest

-- a line that ends a record: a terminator line that has its LF
abbrev pub is_closing : List ℕ → Bool
is_closing line = ends_with_byte line_feed line && is_terminator (content_of line)

-- lines, cut after each one that ends a record
abbrev pub cut_lines : List (List ℕ) → Cut
cut_lines [] = record { whole = []; rest = [] }
cut_lines (line ∷ lines) =
    if is_closing line then with_first line (cut_lines lines)
    else with_front line (cut_lines lines)

-- the closed records of a stream, and what follows the last of them
abbrev pub cut_of : List ℕ → Cut
cut_of bytes = cut_lines (lines_of bytes)

-- every line is blank
abbrev pub is_blank_text : List ℕ → Bool
is_blank_text bytes = list_all is_blank (contents_of bytes)

-- what follows the last LF
abbrev pub open_line : List ℕ → List ℕ
open_line bytes = fold (λ line b. if b == line_feed then [] else line ++ b ∷ []) [] bytes

-- What follows the last closed record: nothing, blank lines, or a last record, which is closed where its last line is
-- a terminator line without LF.
abbrev pub tail_of : List ℕ → Tail
tail_of rest =
    if length rest == 0 then Nothing
    else if is_blank_text rest then Blank rest
    else Last (record { bytes = rest; closed = is_terminator (open_line rest) })

-- the last record, if there is one
abbrev pub last_of : List ℕ → List (List ℕ)
last_of rest = if is_blank_text rest then [] else rest ∷ []

-- the records of a stream
abbrev pub records_of : List ℕ → List (List ℕ)
records_of bytes = (cut_of bytes).whole ++ last_of (cut_of bytes).rest

-- the blank lines, or nothing, that follow the last record
abbrev pub blank_tail : List ℕ → List ℕ
blank_tail bytes = if is_blank_text (cut_of bytes).rest then (cut_of bytes).rest else []
