-- Classes of a sphere that are split where they are. Own.
use Rattle.std.specs.Prelude.{◌≡◌, ◌≢◌, ◌<◌, ◌≤◌, ◌+◌, ◌==◌, ◌&&◌, ◌⊎◌, ℕ, Bool, true, false, List, length, nat_lt, slice_index}
use Rattle.std.specs.List.{slice_index_or}
use Rattle.std.specs.declared.cmp.Ordering.{Ordering}
use Rattle.std.specs.declared.cmp.Ordering.TheVariants.{Equal}
use Rattle.cip_rank.specs.Ranged.{KeepsOthers}
use Rattle.cip_rank.specs.Ranking.{by_number}
use Rattle.cip_partition.specs.Rows.{IsRow, number_in, AreClassed}

-- the rows of a class are sorted by an order, and numbered by it
pub record PartsRows (compare : ℕ → ℕ → Ordering) (first past : ℕ) (rows new_rows numbers new_numbers : List ℕ) : Type 0
  where
    pub kept : KeepsOthers first past rows new_rows
    pub there : (k : ℕ) → first ≤ k → k < past → IsRow rows first past (slice_index new_rows k)
    pub back : (k : ℕ) → first ≤ k → k < past → IsRow new_rows first past (slice_index rows k)
    pub ordered : (i j : ℕ) → first ≤ i → i < past → first ≤ j → j < past
        → by_number new_numbers (slice_index new_rows i) (slice_index new_rows j) ≡ compare (slice_index new_rows i)
        (slice_index new_rows j)
    pub classed : AreClassed new_rows new_numbers first past
    pub others : (place : ℕ) → ((k : ℕ) → first ≤ k → k < past → slice_index rows k ≢ place)
        → slice_index new_numbers place ≡ slice_index numbers place
    pub len : length new_numbers ≡ length numbers

-- the same of a class alone, whose first row is given
pub record PartsClass (compare : ℕ → ℕ → Ordering) (first : ℕ) (nodes numbers new_numbers : List ℕ) : Type 0 where
  pub ordered : (i j : ℕ) → i < length nodes → j < length nodes → by_number new_numbers (slice_index nodes i)
      (slice_index nodes j) ≡ compare (slice_index nodes i) (slice_index nodes j)
  pub head : 0 < length nodes → number_in nodes new_numbers 0 ≡ first
  pub next : (k : ℕ) → k + 1 < length nodes → (number_in nodes new_numbers (k + 1) ≡ number_in nodes new_numbers k)
      ⊎ (number_in nodes new_numbers (k + 1) ≡ first + (k + 1))
  pub others : (place : ℕ) → ((k : ℕ) → k < length nodes → slice_index nodes k ≢ place)
      → slice_index new_numbers place ≡ slice_index numbers place
  pub len : length new_numbers ≡ length numbers

-- all nodes compare alike with the first of them
pub record AreAlike (compare : ℕ → ℕ → Ordering) (nodes : List ℕ) : Type 0 where
  pub each : (k : ℕ) → k < length nodes → compare (slice_index nodes 0) (slice_index nodes k) ≡ Equal

-- places of a sphere that tie compare alike
pub record TieAlike (compare : ℕ → ℕ → Ordering) (rows numbers : List ℕ) (from to : ℕ) : Type 0 where
  pub each : (a b : ℕ) → IsRow rows from to a → IsRow rows from to b → slice_index numbers a ≡ slice_index numbers b
      → compare a b ≡ Equal

-- the rows from the first one to `past` are those of one number
pub record EndsClass (rows numbers : List ℕ) (first to past : ℕ) : Type 0 where
  pub some : first < past
  pub high : past ≤ to
  pub each : (k : ℕ) → first ≤ k → k < past → number_in rows numbers k ≡ number_in rows numbers first
  pub ends : past < to → number_in rows numbers past ≢ number_in rows numbers first

-- the rows of one class among those of a sphere
pub record IsClass (rows numbers : List ℕ) (from to first past : ℕ) : Type 0 where
  pub low : from ≤ first
  pub some : first < past
  pub high : past ≤ to
  pub each : (k : ℕ) → first ≤ k → k < past → number_in rows numbers k ≡ first
  pub ends : past < to → number_in rows numbers past ≡ past

-- whether a class begins at a row and goes on in the next one
abbrev pub is_class_start : List ℕ → List ℕ → ℕ → ℕ → Bool
is_class_start rows numbers row to = nat_lt (row + 1) to && (number_in rows numbers (row + 1) == row)

-- a flag is at the row at which a class begins: that class is to be looked at
abbrev pub has_flag : List Bool → ℕ → Bool
has_flag flags row = slice_index_or flags row false

-- only a row at which a class begins has a flag
pub record FlagHeads (rows numbers : List ℕ) (from to : ℕ) (flags : List Bool) : Type 0 where
  pub each : (row : ℕ) → from ≤ row → row < to → has_flag flags row ≡ true → number_in rows numbers row ≡ row

-- each row at which a class of two and more begins has one
pub record HaveFlags (rows numbers : List ℕ) (from to : ℕ) (flags : List Bool) : Type 0 where
  pub each : (row : ℕ) → from ≤ row → row + 1 < to → number_in rows numbers (row + 1) ≡ row
      → has_flag flags row ≡ true

-- each row at which a class of two and more begins has one, as far as a row, and no other row
pub record FlagClasses (rows numbers : List ℕ) (from row to : ℕ) (flags : List Bool) : Type 0 where
  pub each : (k : ℕ) → from ≤ k → k < row → k + 1 < to → number_in rows numbers (k + 1) ≡ k → has_flag flags k ≡ true
  pub only : (k : ℕ) → has_flag flags k ≡ true → (from ≤ k) × (k + 1 < to) × (number_in rows numbers (k + 1) ≡ k)

-- The classes of a sphere that have a flag and begin before a row are split by a comparison; the others are unchanged.
pub record PartsSphere (compare : ℕ → ℕ → Ordering) (from to row : ℕ) (flags : List Bool)
    (rows new_rows numbers new : List ℕ) : Type 0 where
  pub classed : AreClassed new_rows new from to
  pub there : (place : ℕ) → IsRow new_rows from to place → IsRow rows from to place
  pub back : (place : ℕ) → IsRow rows from to place → IsRow new_rows from to place
  pub parted : (a b : ℕ) → IsRow rows from to a → IsRow rows from to b
      → slice_index numbers a ≡ slice_index numbers b → slice_index numbers a < row
      → has_flag flags (slice_index numbers a) ≡ true → by_number new a b ≡ compare a b
  pub still : (place : ℕ) → IsRow rows from to place
      → (row ≤ slice_index numbers place) ⊎ (has_flag flags (slice_index numbers place) ≡ false)
      → slice_index new place ≡ slice_index numbers place
  pub apart : (a b : ℕ) → IsRow rows from to a → IsRow rows from to b
      → slice_index numbers a ≢ slice_index numbers b → by_number new a b ≡ by_number numbers a b
  pub rows_still : (k : ℕ) → row ≤ k → k < to → slice_index new_rows k ≡ slice_index rows k
  pub kept : KeepsOthers from to rows new_rows
  pub others : (place : ℕ) → (IsRow rows from to place → ⊥) → slice_index new place ≡ slice_index numbers place
  pub len : length new ≡ length numbers

-- the class at a row with a flag is split, any other row is passed over
abbrev pub StepsOn : (ℕ → ℕ → Ordering) → ℕ → ℕ → ℕ → List Bool → List ℕ → List ℕ → List ℕ → List ℕ → Type 0
StepsOn compare row to past flags rows new_rows numbers new =
    ((has_flag flags row ≡ false) × (past ≡ row + 1) × (new_rows ≡ rows) × (new ≡ numbers))
    ⊎ ((has_flag flags row ≡ true) × EndsClass rows numbers row to past × PartsRows compare row past rows new_rows numbers
    new)

-- what parting the classes of a sphere leaves as it was
pub record KeepsSphere (from to : ℕ) (rows new_rows numbers new : List ℕ) : Type 0 where
  pub classed : AreClassed new_rows new from to
  pub there : (place : ℕ) → IsRow new_rows from to place → IsRow rows from to place
  pub back : (place : ℕ) → IsRow rows from to place → IsRow new_rows from to place
  pub kept : KeepsOthers from to rows new_rows
  pub others : (place : ℕ) → (IsRow rows from to place → ⊥) → slice_index new place ≡ slice_index numbers place
  pub len : length new ≡ length numbers
