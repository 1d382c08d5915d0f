-- At which line a fault of joined lines is reported. Own.
use Rattle.std.specs.Prelude.{◌≡◌, ◌≤◌, ◌<◌, ◌⊎◌, ℕ, List, Bool, true, false, ◌-◌, slice_get, Some, None}
use Rattle.std.specs.declared.option.Option.{Option}
use Rattle.cip_v3000.specs.JoinedLines.{begins_v30, is_continued}

-- a test of the line of this number, from 1; a line that is missing doesn't pass
abbrev pub passes : (List ℕ → Bool) → Option (List ℕ) → Bool
passes test None = false
passes test (Some line) = test line

abbrev pub is_part_at : List (List ℕ) → ℕ → Bool
is_part_at lines number = passes begins_v30 (slice_get lines (number - 1))

abbrev pub is_continued_at : List (List ℕ) → ℕ → Bool
is_continued_at lines number = passes is_continued (slice_get lines (number - 1))

-- the lines of these numbers, from the first to the last, make one
pub record AreJoined (lines : List (List ℕ)) (first last : ℕ) : Type 0 where
  pub behind : 5 ≤ first
  pub order : first ≤ last
  -- none before the first one belongs to them
  pub begun : (first ≡ 5) ⊎ (is_continued_at lines (first - 1) ≡ false)
  pub parts : (k : ℕ) → first ≤ k → k ≤ last → is_part_at lines k ≡ true
  pub continued : (k : ℕ) → first ≤ k → k < last → is_continued_at lines k ≡ true
  pub ended : is_continued_at lines last ≡ false

-- A fault is reported at the first part of the joined line that ends with the line that decides; where that is missing,
-- or can't be a part, it is reported at that line itself.
abbrev pub TellsAtFirstPart : List (List ℕ) → ℕ → ℕ → Type 0
TellsAtFirstPart lines line decisive =
    AreJoined lines line decisive ⊎ ((line ≡ decisive) × (is_part_at lines decisive ≡ false))
