-- A rule taken with each sphere that is walked. Own.
use Rattle.std.specs.Prelude.{◌≡◌, ◌<◌, ◌+◌, ℕ, ℤ, suc, Bool, List, length, slice_index}
use Rattle.std.specs.Ordering.{int_cmp}
use Rattle.cip_rank.specs.Ranking.{by_number}
use Rattle.cip_partition.specs.Kids.{kids_of, kid_set}
use Rattle.cip_branches.specs.SphereColumns.{SphereColumns}
use Rattle.cip_branches.specs.Passing.{Passes}
use Rattle.cip_partition.specs.Keys.{key_of}
use Rattle.cip_branches.specs.Turning.{in_sphere, AreSpheres, SamePlaces}
use Rattle.cip_branches.specs.Walking.{IsWalked}

-- Spheres up to the last one are ranked: they are in classes, those of before are the numbers, and places further in
-- that tie have the same sets of children's numbers.
pub record AreRanked (now : SphereColumns) (last : ℕ) : Type 0 where
  pub spheres : AreSpheres (kids_of now.place_tree) now.place_tree.place_parents now.ranked.rows now.starts last now.ranked.numbers
  pub count : length now.starts ≡ last + 2
  pub ends : slice_index now.starts (suc last) ≡ length now.ranked.rows
  pub before : now.before ≡ now.ranked.numbers
  pub steady : (t a b : ℕ) → t < last → in_sphere now.ranked.rows now.starts t a
      → in_sphere now.ranked.rows now.starts t b → slice_index now.ranked.numbers a ≡ slice_index now.ranked.numbers b
      → kid_set (kids_of now.place_tree) now.ranked.numbers a ≡ kid_set (kids_of now.place_tree) now.ranked.numbers b

-- A first sphere has the node at the top of each branch, and is ranked by keys.
pub record Begins (tops : List ℕ) (keys : List ℤ) (now : SphereColumns) : Type 0 where
  pub count : length now.place_tree.place_parents ≡ length tops
  pub nodes : now.place_tree.nodes ≡ tops
  pub branch : (k : ℕ) → k < length tops → slice_index now.place_tree.branches k ≡ k
  pub here : (k : ℕ) → k < length tops → in_sphere now.ranked.rows now.starts 0 k
  pub ordered : (a b : ℕ) → a < length tops → b < length tops
      → by_number now.ranked.numbers a b ≡ int_cmp (key_of keys now.place_tree a) (key_of keys now.place_tree b)

-- the next sphere is walked, and a rule is taken as far by keys
pub record Follows (begin : SphereColumns) (first last size : ℕ) (kids_at : ℕ → List ℕ) (unresolved : List Bool) (keys : List ℤ)
    (now : SphereColumns) : Type 0 where
  pub mid : SphereColumns
  pub walked : IsWalked begin first size kids_at unresolved mid
  pub passed : Passes (kids_of mid.place_tree) (in_sphere mid.ranked.rows mid.starts) last (key_of keys mid.place_tree)
      mid.ranked.numbers now.ranked.numbers
  pub places : SamePlaces mid.ranked.rows now.ranked.rows mid.starts
  pub place_tree : now.place_tree ≡ mid.place_tree
  pub starts : now.starts ≡ mid.starts
