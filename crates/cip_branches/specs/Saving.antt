-- Ranks of branches that were set aside. Own.
use Rattle.std.specs.Prelude.{◌≡◌, ◌<◌, ℕ, Bool, List, length, slice_index}
use Rattle.cip_branches.specs.Deciding.{Branched}
use Rattle.cip_partition.specs.ReservedList.{ReservedList}

-- rows and numbers, which branches were unresolved, and for how many places there is room
pub record Checkpoint : Type 0 where
  pub room : ℕ
  pub rows : List ℕ
  pub numbers : List ℕ
  pub unresolved : List Bool

-- each place in a row has a number, and the columns have the same room
pub record KeepSaved (rows numbers : ReservedList ℕ) (unresolved : ReservedList Bool) : Type 0 where
  pub numbers_room : numbers.room ≡ rows.room
  pub wanted_room : unresolved.room ≡ rows.room
  pub below : (k : ℕ) → k < length rows.items → slice_index rows.items k < length numbers.items

-- those of some branches
abbrev pub saved_of : ℕ → Branched → Checkpoint
saved_of room now = record {
  room = room;
  rows = now.layers.ranked.rows;
  numbers = now.layers.ranked.numbers;
  unresolved = now.unresolved;
}

-- branches with the ranks that were set aside
abbrev pub restored : Checkpoint → Branched → Branched
restored saved now = record now {
  layers = record now.layers {
    ranked = record now.layers.ranked { rows = saved.rows; numbers = saved.numbers };
    before = saved.numbers;
  };
  unresolved = saved.unresolved;
}
