-- A later rule over the present places: begun in the first sphere, and taken one sphere further. Own.
use Rattle.std.specs.Prelude.{◌≡◌, ◌≢◌, ℕ, ℤ, List, slice_index}
use Rattle.std.specs.Ordering.{int_cmp, then_cmp, on}
use Rattle.cip_rank.specs.Ranking.{by_number}
use Rattle.cip_partition.specs.Kids.{kids_of}
use Rattle.cip_branches.specs.SphereColumns.{SphereColumns}
use Rattle.cip_branches.specs.Passing.{Passes}
use Rattle.cip_partition.specs.Keys.{key_of}
use Rattle.cip_partition.specs.Rows.{OrdersPlaces}
use Rattle.cip_branches.specs.Turning.{in_sphere, SamePlaces}

-- the same places, in other rows of their spheres
pub record KeepsPlaces (before now : SphereColumns) : Type 0 where
  pub places : SamePlaces before.ranked.rows now.ranked.rows before.starts
  pub place_tree : now.place_tree ≡ before.place_tree
  pub starts : now.starts ≡ before.starts
  pub room : now.ranked.room ≡ before.ranked.room

-- the first sphere is split by keys, and all others are unchanged
pub record SplitsFirst (before : SphereColumns) (keys : List ℤ) (now : SphereColumns) : Type 0 where
  pub kept : KeepsPlaces before now
  pub split : OrdersPlaces (in_sphere before.ranked.rows before.starts 0) (then_cmp (by_number before.ranked.numbers)
      (on (key_of keys before.place_tree) int_cmp)) now.ranked.numbers
  pub others : (t place : ℕ) → t ≢ 0 → in_sphere before.ranked.rows before.starts t place
      → slice_index now.ranked.numbers place ≡ slice_index before.ranked.numbers place

-- a rule is taken to the sphere after `far`
pub record Deepens (before : SphereColumns) (far : ℕ) (keys : List ℤ) (now : SphereColumns) : Type 0 where
  pub kept : KeepsPlaces before now
  pub passed : Passes (kids_of before.place_tree) (in_sphere before.ranked.rows before.starts) far (key_of keys before.place_tree)
      before.ranked.numbers now.ranked.numbers
