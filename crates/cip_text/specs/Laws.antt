-- What lines are, in plain words. Own.
use Rattle.std.specs.Prelude.{◌≡◌, ◌++◌, ℕ, List, [], ◌∷◌, Bool, true, false, ◌==◌, ◌&&◌, ◌||◌, not, nat_lt, length, map, if◌then◌else◌}
use Rattle.std.specs.List.{concat, list_any}
use Rattle.cip_text.specs.Lines.{line_feed, lines_of, ends_with_byte, content_of, contents_of, end_of}
use Rattle.cip_text.specs.Places.{places_of, text_at}

-- the lines, each of them its content with its end after it, are the text
pub record LinesJoin : Type 0 where
  pub lines : (bytes : List ℕ) → concat (lines_of bytes) ≡ bytes
  pub parts : (line : List ℕ) → content_of line ++ end_of line ≡ line

abbrev pub has_line_feed : List ℕ → Bool
has_line_feed text = list_any (λ b. b == line_feed) text

-- one LF, at the end
abbrev pub is_ended : List ℕ → Bool
is_ended [] = false
is_ended (b ∷ bs) = if b == line_feed then length bs == 0 else is_ended bs

-- every line but the last is ended; the last one is, or has no LF and isn't empty
abbrev pub are_ended : List (List ℕ) → Bool
are_ended [] = true
are_ended (line ∷ []) = is_ended line || nat_lt 0 (length line) && not (has_line_feed line)
are_ended (line ∷ next ∷ lines) = is_ended line && are_ended (next ∷ lines)

abbrev pub LinesAreEnded : Type 0
LinesAreEnded = (bytes : List ℕ) → are_ended (lines_of bytes) ≡ true

-- the lines of a text that is cut after a line end are those of both parts
abbrev pub LinesAreCut : Type 0
LinesAreCut = (before behind : List ℕ) → ends_with_byte line_feed before ≡ true
    → lines_of (before ++ behind) ≡ lines_of before ++ lines_of behind

-- each line's content is at its place
abbrev pub ContentsStandAtPlaces : Type 0
ContentsStandAtPlaces = (bytes : List ℕ) → map (text_at bytes) (places_of bytes) ≡ contents_of bytes
