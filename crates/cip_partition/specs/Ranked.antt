-- Places in rows, and of each place its number. Own.
use Rattle.std.specs.Prelude.{◌≡◌, ◌<◌, ◌≤◌, ◌^◌, ◌++◌, ◌∷◌, ℕ, List, [], length, slice_index}
use Rattle.cip_partition.specs.ReservedList.{ReservedList}

pub record Ranked : Type 0 where
  pub room : ℕ
  pub rows : List ℕ
  pub numbers : List ℕ

-- the columns have the same room, and each place in a row has a number
pub record KeepOrder (rows numbers offsets : ReservedList ℕ) : Type 0 where
  pub few : rows.room < 2 ^ 32
  pub fits : length rows.items ≤ rows.room
  pub numbers_room : numbers.room ≡ rows.room
  pub offsets_room : offsets.room ≡ rows.room
  pub below : (k : ℕ) → k < length rows.items → slice_index rows.items k < length numbers.items

-- the next place by count, in a row after all others
abbrev pub with_row : ℕ → Ranked → Ranked
with_row number ranked = record ranked {
  rows = ranked.rows ++ length ranked.numbers ∷ [];
  numbers = ranked.numbers ++ number ∷ [];
}
