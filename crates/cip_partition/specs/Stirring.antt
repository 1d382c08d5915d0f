-- Which classes of a sphere are to be looked at again: those of which a member's child has another number. Own.
use Rattle.std.specs.Prelude.{◌≡◌, ◌≢◌, ◌<◌, ◌≤◌, ◌⊎◌, ℕ, Bool, true, false, List, slice_index}
use Rattle.std.specs.List.{AllByRecursion}
use Rattle.cip_partition.specs.Kids.{kid_set}
use Rattle.cip_partition.specs.Parting.{has_flag, is_class_start}
use Rattle.cip_partition.specs.Rows.{IsRow}

abbrev pub number_above : List ℕ → List ℕ → List ℕ → ℕ → ℕ
number_above place_parents rows numbers k = slice_index numbers (slice_index place_parents (slice_index rows k))

-- A place in one of these rows has another number than before, and the class of its parent, which begins at this number,
-- has two places and more.
pub record IsAbove (place_parents rows before numbers : List ℕ) (from to number : ℕ) : Type 0 where
  pub row : ℕ
  pub low : from ≤ row
  pub high : row < to
  pub here : number_above place_parents rows numbers row ≡ number
  pub differs : slice_index numbers (slice_index rows row) ≢ slice_index before (slice_index rows row)
  pub shared : is_class_start rows numbers number from ≡ true

-- Flags are set of the classes of two and more above each place that has another number than before, and of no others.
-- Those are in the rows before.
pub record StirsAbove (place_parents rows before numbers : List ℕ) (from to : ℕ) (old new : List Bool) : Type 0 where
  pub each : (k : ℕ) → from ≤ k → k < to → slice_index numbers (slice_index rows k) ≢ slice_index before
      (slice_index rows k) → is_class_start rows numbers (number_above place_parents rows numbers k) from ≡ true
      → has_flag new (number_above place_parents rows numbers k) ≡ true
  pub only : (number : ℕ) → has_flag new number ≡ true → (has_flag old number ≡ true) ⊎ IsAbove place_parents rows before numbers
      from to number
  pub stay : (number : ℕ) → has_flag old number ≡ true → has_flag new number ≡ true

pub record NoFlags (flags : List Bool) : Type 0 where
  pub none : (row : ℕ) → has_flag flags row ≡ false

-- the children of the places in the rows of one sphere are in those of the next one, and know their parents
pub record KnowParents (kids : ℕ → List ℕ) (place_parents rows : List ℕ) (from to past : ℕ) : Type 0 where
  pub node_data : (place : ℕ) → IsRow rows from to place
      → AllByRecursion (λ kid. IsRow rows to past kid × (slice_index place_parents kid ≡ place)) (kids place)
  pub parent_place : (k : ℕ) → to ≤ k → k < past → IsRow rows from to (slice_index place_parents (slice_index rows k))

-- places that tie have the same sets, where all of their children have the numbers of before
pub record TieUnlessStirred (kids : ℕ → List ℕ) (before rows numbers : List ℕ) (from to : ℕ) : Type 0 where
  pub same : (a b : ℕ) → IsRow rows from to a → IsRow rows from to b
      → slice_index numbers a ≡ slice_index numbers b
      → AllByRecursion (λ kid. slice_index numbers kid ≡ slice_index before kid) (kids a)
      → AllByRecursion (λ kid. slice_index numbers kid ≡ slice_index before kid) (kids b)
      → kid_set kids numbers a ≡ kid_set kids numbers b
