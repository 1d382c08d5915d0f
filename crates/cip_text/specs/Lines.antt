-- The lines of a text. CTfile Formats; that a CR right before an LF belongs to the line end, and that a last line
-- may lack its LF, is own.
use Rattle.std.specs.Prelude.{ℕ, suc, List, [], ◌∷◌, ◌-◌, Bool, ◌==◌, ◌&&◌, nat_lt, drop, length, map, slice_index, take, if◌then◌else◌}
use Rattle.std.specs.List.{onto_first}

abbrev pub line_feed : ℕ
line_feed = 10

abbrev pub carriage_return : ℕ
carriage_return = 13

-- The lines with their ends. A line ends after each LF, and what follows the last LF is a line unless it is empty.
abbrev pub lines_of : List ℕ → List (List ℕ)
lines_of [] = []
lines_of (b ∷ bs) = if b == line_feed then (b ∷ []) ∷ lines_of bs else onto_first b (lines_of bs)

-- how long the first line is, with its end
abbrev pub line_length : List ℕ → ℕ
line_length [] = 0
line_length (b ∷ bs) = if b == line_feed then 1 else suc (line_length bs)

abbrev pub starts_with_byte : ℕ → List ℕ → Bool
starts_with_byte b text = nat_lt 0 (length text) && slice_index text 0 == b

abbrev pub ends_with_byte : ℕ → List ℕ → Bool
ends_with_byte b text = nat_lt 0 (length text) && slice_index text (length text - 1) == b

abbrev pub without_last : List ℕ → List ℕ
without_last text = take (length text - 1) text

abbrev pub without_return : List ℕ → List ℕ
without_return text = if ends_with_byte carriage_return text then without_last text else text

-- a line without its end
abbrev pub content_of : List ℕ → List ℕ
content_of line = if ends_with_byte line_feed line then without_return (without_last line) else line

-- the end of a line: LF, CR LF or nothing
abbrev pub end_of : List ℕ → List ℕ
end_of line = drop (length (content_of line)) line

-- the two line ends

abbrev pub lf : List ℕ
lf = line_feed ∷ []

abbrev pub crlf : List ℕ
crlf = carriage_return ∷ line_feed ∷ []

abbrev pub contents_of : List ℕ → List (List ℕ)
contents_of bytes = map content_of (lines_of bytes)
