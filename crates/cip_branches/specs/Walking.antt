-- A sphere walked below the places of the last one: what is unchanged, and what is new. Own.
use Rattle.std.specs.Prelude.{◌≡◌, ◌<◌, ◌≤◌, ◌+◌, ◌-◌, ◌++◌, ◌⊎◌, ℕ, suc, Bool, true, if◌then◌else◌, List, [], length, map, slice_index}
use Rattle.std.specs.List.{AllByRecursion, flat_map, range_with_len, sum_by}
use Rattle.cip_partition.specs.Kids.{kids_of, IsAmong}
use Rattle.cip_partition.specs.PlaceTree.{PlaceTree}
use Rattle.cip_branches.specs.SphereColumns.{SphereColumns, with_sphere}
use Rattle.cip_partition.specs.Parting.{has_flag}
use Rattle.cip_branches.specs.Turning.{in_sphere, AreSpheres}

-- each place has its entry in each column
pub record HaveEntries (now : SphereColumns) : Type 0 where
  pub nodes : length now.place_tree.nodes ≡ length now.place_tree.place_parents
  pub branches : length now.place_tree.branches ≡ length now.place_tree.place_parents
  pub firsts : length now.place_tree.firsts ≡ length now.place_tree.place_parents
  pub counts : length now.place_tree.counts ≡ length now.place_tree.place_parents
  pub numbers : length now.ranked.numbers ≡ length now.place_tree.place_parents
  pub before : length now.before ≡ length now.place_tree.place_parents

-- the children that are given for the node at a place, where its branch is unresolved
abbrev pub wanted_at : (ℕ → List ℕ) → List Bool → PlaceTree → ℕ → List ℕ
wanted_at kids_at unresolved place_tree place =
    if has_flag unresolved (slice_index place_tree.branches place) then kids_at (slice_index place_tree.nodes place) else []

-- the children that are given for the nodes at n places from one on, where branches are unresolved
abbrev pub wanted_kids : (ℕ → List ℕ) → List Bool → PlaceTree → ℕ → ℕ → List ℕ
wanted_kids kids_at unresolved place_tree first more = flat_map (wanted_at kids_at unresolved place_tree) (range_with_len first more)

module _ (begin : SphereColumns) where
  abbrev pub known : ℕ
  known = length begin.place_tree.place_parents

  abbrev pub first_row : ℕ
  first_row = length begin.ranked.rows

  -- What was known is unchanged. New places are in rows of their own, in one class, and have no children.
  pub record Grows (now : SphereColumns) : Type 0 where
    pub kin_room : now.place_tree.room ≡ begin.place_tree.room
    pub ranked_room : now.ranked.room ≡ begin.ranked.room
    pub starts : now.starts ≡ begin.starts
    pub entries : HaveEntries now
    pub more : known ≤ length now.place_tree.place_parents
    pub rows_len : length now.ranked.rows ≡ first_row + (length now.place_tree.place_parents - known)
    pub node : (p : ℕ) → p < known → slice_index now.place_tree.nodes p ≡ slice_index begin.place_tree.nodes p
    pub branch : (p : ℕ) → p < known → slice_index now.place_tree.branches p ≡ slice_index begin.place_tree.branches p
    pub parent_place : (p : ℕ) → p < known → slice_index now.place_tree.place_parents p ≡ slice_index begin.place_tree.place_parents p
    pub number : (p : ℕ) → p < known → slice_index now.ranked.numbers p ≡ slice_index begin.ranked.numbers p
    pub before : (p : ℕ) → p < known → slice_index now.before p ≡ slice_index begin.before p
    pub row : (k : ℕ) → k < first_row → slice_index now.ranked.rows k ≡ slice_index begin.ranked.rows k
    pub new_row : (p : ℕ) → known ≤ p → p < length now.place_tree.place_parents
        → slice_index now.ranked.rows (first_row + (p - known)) ≡ p
    pub new_number : (p : ℕ) → known ≤ p → p < length now.place_tree.place_parents → slice_index now.ranked.numbers p ≡ first_row
    pub new_before : (p : ℕ) → known ≤ p → p < length now.place_tree.place_parents → slice_index now.before p ≡ begin.place_tree.room
    pub new_count : (p : ℕ) → known ≤ p → p < length now.place_tree.place_parents → slice_index now.place_tree.counts p ≡ 0

  -- The places from the first one up to another are walked, those of unresolved branches: their children's nodes are
  -- the children that are given for their nodes, among n nodes, and are in their branches.
  pub record Walks (first size : ℕ) (kids_at : ℕ → List ℕ) (unresolved : List Bool) (place : ℕ) (now : SphereColumns) : Type 0
    where
      pub grows : Grows now
      pub listed : now.place_tree.nodes ≡ begin.place_tree.nodes ++ wanted_kids kids_at unresolved begin.place_tree first (place - first)
      pub untouched : (p : ℕ) → p < known → (p < first) ⊎ (place ≤ p) → kids_of now.place_tree p ≡ kids_of begin.place_tree p
      pub done : (p : ℕ) → first ≤ p → p < place
          → AllByRecursion (λ kid. (known ≤ kid) × (kid < length now.place_tree.place_parents) × (slice_index now.place_tree.place_parents kid ≡ p))
          (kids_of now.place_tree p)
      pub node_data : (p : ℕ) → first ≤ p → p < place → has_flag unresolved (slice_index begin.place_tree.branches p) ≡ true
          → map (slice_index now.place_tree.nodes) (kids_of now.place_tree p) ≡ kids_at (slice_index begin.place_tree.nodes p)
      pub new_kid : (p : ℕ) → known ≤ p → p < length now.place_tree.place_parents
          → IsAmong (kids_of now.place_tree (slice_index now.place_tree.place_parents p)) p
      pub new_low : (p : ℕ) → known ≤ p → p < length now.place_tree.place_parents → first ≤ slice_index now.place_tree.place_parents p
      pub new_high : (p : ℕ) → known ≤ p → p < length now.place_tree.place_parents → slice_index now.place_tree.place_parents p < place
      pub new_node : (p : ℕ) → known ≤ p → p < length now.place_tree.place_parents → slice_index now.place_tree.nodes p < size
      pub new_branch : (p : ℕ) → known ≤ p → p < length now.place_tree.place_parents
          → slice_index now.place_tree.branches p ≡ slice_index begin.place_tree.branches (slice_index now.place_tree.place_parents p)
      pub wanted_above : (p : ℕ) → known ≤ p → p < length now.place_tree.place_parents
          → has_flag unresolved (slice_index begin.place_tree.branches (slice_index now.place_tree.place_parents p)) ≡ true

-- The places of the last sphere are those from a first one on, at least those of unresolved branches. They have no
-- children yet.
pub record LastPlaces (now : SphereColumns) (unresolved : List Bool) (first last : ℕ) : Type 0 where
  pub low : (p : ℕ) → in_sphere now.ranked.rows now.starts last p → first ≤ p
  pub high : (p : ℕ) → in_sphere now.ranked.rows now.starts last p → p < length now.place_tree.place_parents
  pub back : (p : ℕ) → first ≤ p → p < length now.place_tree.place_parents → has_flag unresolved (slice_index now.place_tree.branches p) ≡ true
      → in_sphere now.ranked.rows now.starts last p
  pub inner : (t p : ℕ) → t < last → in_sphere now.ranked.rows now.starts t p → p < first
  pub bare : (p : ℕ) → first ≤ p → p < length now.place_tree.place_parents → slice_index now.place_tree.counts p ≡ 0

-- how many children the nodes at n places have, from a place on
abbrev pub kids_left : (ℕ → List ℕ) → List ℕ → ℕ → ℕ → ℕ
kids_left kids_at nodes place more = sum_by (λ p. length (kids_at (slice_index nodes p))) (range_with_len place more)

-- all places of the last sphere are walked, and a sphere ends after them
pub record IsWalked (begin : SphereColumns) (first size : ℕ) (kids_at : ℕ → List ℕ) (unresolved : List Bool)
    (now : SphereColumns) : Type 0
  where
    pub walked : SphereColumns
    pub below : (k : ℕ) → k < length begin.ranked.rows → slice_index begin.ranked.rows k < length begin.place_tree.place_parents
    pub walks : Walks begin first size kids_at unresolved (length begin.place_tree.place_parents) walked
    pub ended : now ≡ with_sphere walked

-- what walking on asks for
pub record MayWalk (size : ℕ) (kids_at : ℕ → List ℕ) (unresolved : List Bool) (first last : ℕ) (now : SphereColumns) : Type 0 where
  pub spheres : AreSpheres (kids_of now.place_tree) now.place_tree.place_parents now.ranked.rows now.starts last now.ranked.numbers
  pub count : length now.starts ≡ last + 2
  pub ends : slice_index now.starts (suc last) ≡ length now.ranked.rows
  pub places : LastPlaces now unresolved first last
  pub within : first ≤ length now.place_tree.place_parents
  pub nodes : (p : ℕ) → first ≤ p → p < length now.place_tree.place_parents → slice_index now.place_tree.nodes p < size
  pub room : length now.place_tree.place_parents + kids_left kids_at now.place_tree.nodes first (length now.place_tree.place_parents - first) ≤ now.place_tree.room
  pub sphere_room : last + 2 ≤ now.place_tree.room
