-- Keys of the nodes at places. Own.
use Rattle.std.specs.Prelude.{◌<◌, ℕ, ℤ, List, length, slice_index}
use Rattle.cip_rank.specs.Ranking.{key_at}
use Rattle.cip_partition.specs.PlaceTree.{PlaceTree}

-- the key of the node at a place
abbrev pub key_of : List ℤ → PlaceTree → ℕ → ℤ
key_of keys place_tree place = key_at keys (slice_index place_tree.nodes place)

-- the node at each place has a key
pub record AreKeyed (count : ℕ) (place_tree : PlaceTree) : Type 0 where
  pub each : (place : ℕ) → place < length place_tree.place_parents → slice_index place_tree.nodes place < count
