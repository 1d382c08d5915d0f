-- What a piece of a stream, and one line of it, make of a framer. Own.
use Rattle.std.specs.Prelude.{◌≡◌, ◌≤◌, ◌+◌, ◌++◌, ◌∷◌, [], ℕ, List, Bool, true, false, ◌==◌, ◌&&◌, not, length, if◌then◌else◌}
use Rattle.std.specs.List.{list_any, take_while}
use Rattle.cip_text.specs.Lines.{line_feed, ends_with_byte}
use Rattle.cip_frame.specs.Records.{is_closing, open_line}
use Rattle.cip_frame.specs.Framing.{Framing, fits, all_fit}
use Rattle.cip_frame.specs.Following.{cut_behind}

-- a line of a piece: a byte at least, and no LF before the last one
abbrev pub is_line : List ℕ → Bool
is_line [] = false
is_line (b ∷ []) = true
is_line (b ∷ c ∷ cs) = not (b == line_feed) && is_line (c ∷ cs)

-- the line was put after the open bytes, and where it closed the record that one waits
pub record TakesLine (old : Framing) (line : List ℕ) (new : Framing) : Type 0 where
  pub within : length old.open_bytes + length line ≤ old.limit
  pub waiting : new.waiting ≡
      (if is_closing (open_line old.open_bytes ++ line)
      then old.waiting ++ (old.open_bytes ++ line) ∷ [] else old.waiting)
  pub open_bytes : new.open_bytes ≡
      (if is_closing (open_line old.open_bytes ++ line) then [] else old.open_bytes ++ line)
  pub limit : new.limit ≡ old.limit
  pub fault : new.fault ≡ old.fault

-- the piece was taken: its records wait after the others
pub record TakesPiece (old : Framing) (piece : List ℕ) (new : Framing) : Type 0 where
  pub waiting : new.waiting ≡ old.waiting ++ (cut_behind old.open_bytes piece).whole
  pub open_bytes : new.open_bytes ≡ (cut_behind old.open_bytes piece).rest
  pub within : length old.open_bytes ≤ old.limit → all_fit old.limit (cut_behind old.open_bytes piece) ≡ true
  pub limit : new.limit ≡ old.limit
  pub fault : new.fault ≡ old.fault

-- a record or the open rest is longer than the limit: the records before it wait
pub record IsTooLong (old : Framing) (piece : List ℕ) (new : Framing) : Type 0 where
  pub waiting : new.waiting ≡ old.waiting ++ take_while (fits old.limit) (cut_behind old.open_bytes piece).whole
  pub passed : all_fit old.limit (cut_behind old.open_bytes piece) ≡ false

-- whole lines without a dollar sign
pub record ArePlain (lines : List ℕ) : Type 0 where
  pub ended : ends_with_byte line_feed lines ≡ true
  pub plain : list_any (λ b. b == 36) lines ≡ false

-- what waits and what is still to come are together what was to come at first
pub record Ahead (old : Framing) (piece : List ℕ) (now : Framing) (left : List ℕ) : Type 0 where
  pub waiting : now.waiting ++ (cut_behind now.open_bytes left).whole
      ≡ old.waiting ++ (cut_behind old.open_bytes piece).whole
  pub rest : (cut_behind now.open_bytes left).rest ≡ (cut_behind old.open_bytes piece).rest
  pub fit : all_fit old.limit (cut_behind now.open_bytes left) ≡ all_fit old.limit (cut_behind old.open_bytes piece)
  pub fitting : now.waiting ++ take_while (fits old.limit) (cut_behind now.open_bytes left).whole
      ≡ old.waiting ++ take_while (fits old.limit) (cut_behind old.open_bytes piece).whole
  pub within : length old.open_bytes ≤ old.limit → length now.open_bytes ≤ old.limit
  pub limit : now.limit ≡ old.limit
  pub fault : now.fault ≡ old.fault
