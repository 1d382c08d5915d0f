-- The cuts of bytes that follow a front, byte by byte. Own.
use Rattle.std.specs.Prelude.{ℕ, List, [], ◌∷◌, ◌++◌, Bool, ◌==◌, ◌&&◌, if◌then◌else◌}
use Rattle.cip_text.specs.Lines.{line_feed, without_return}
use Rattle.cip_text.specs.Kinds.{is_terminator}
use Rattle.cip_frame.specs.Records.{Cut, with_first, open_line}

-- a byte ends a record: it is the LF of a terminator line
abbrev pub closes : List ℕ → ℕ → Bool
closes front b = b == line_feed && is_terminator (without_return (open_line front))

-- the cuts in the bytes, where the front is the first of what is cut
abbrev pub cut_behind : List ℕ → List ℕ → Cut
cut_behind front [] = record { whole = []; rest = front }
cut_behind front (b ∷ bs) =
    if closes front b then with_first (front ++ b ∷ []) (cut_behind [] bs)
    else cut_behind (front ++ b ∷ []) bs
