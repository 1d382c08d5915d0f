-- Branches as a rule sees them: nodes at the places of unresolved branches, and numbers that order them. Own.
use Rattle.std.specs.Prelude.{◌≡◌, ◌<◌, ℕ, ℤ, suc, Bool, true, List, map, slice_index}
use Rattle.std.specs.List.{AllByRecursion}
use Rattle.std.specs.declared.cmp.Ordering.{Ordering}
use Rattle.cip_rank.specs.Ranking.{key_at}
use Rattle.cip_partition.specs.Kids.{kids_of, IsAmong}
use Rattle.cip_branches.specs.SphereColumns.{SphereColumns}
use Rattle.cip_partition.specs.Parting.{has_flag}
use Rattle.cip_branches.specs.Turning.{in_sphere}
use Rattle.cip_branches.specs.Views.{IsView, Reaches}

-- a place of a sphere in an unresolved branch
pub record IsWanted (now : SphereColumns) (unresolved : List Bool) (t place : ℕ) : Type 0 where
  pub at : in_sphere now.ranked.rows now.starts t place
  pub chosen : has_flag unresolved (slice_index now.place_tree.branches place) ≡ true

-- a place is a child of its parent, whose branch is unresolved too
pub record IsBelow (now : SphereColumns) (unresolved : List Bool) (t place : ℕ) : Type 0 where
  pub parent_place : IsWanted now unresolved t (slice_index now.place_tree.place_parents place)
  pub kid : IsAmong (kids_of now.place_tree (slice_index now.place_tree.place_parents place)) place

-- fewer branches are unresolved
pub record WantsFewer (old new : List Bool) : Type 0 where
  pub each : (branch : ℕ) → has_flag new branch ≡ true → has_flag old branch ≡ true

module _ {N : Type 0} (children : N → List N) (earlier : N → N → Ordering) (key : N → ℤ) (named : ℕ → N) where
  abbrev pub node_of : SphereColumns → ℕ → N
  node_of now place = named (slice_index now.place_tree.nodes place)

  -- the rule was taken with the spheres up to the last one, and children are in the branches of their parents
  pub record IsRuled (now : SphereColumns) (unresolved : List Bool) (last : ℕ) : Type 0 where
    pub inherits : (t place : ℕ) → t < last → IsWanted now unresolved t place
        → AllByRecursion (λ kid. slice_index now.place_tree.branches kid ≡ slice_index now.place_tree.branches place)
        (kids_of now.place_tree place)
    pub above : (t place : ℕ) → t < last → IsWanted now unresolved (suc t) place → IsBelow now unresolved t place
    pub view : IsView children (node_of now) (kids_of now.place_tree) (IsWanted now unresolved) last
    pub reaches : Reaches children earlier key (node_of now) (IsWanted now unresolved) last now.ranked.numbers

  -- n numbers name nodes: the children that are given for the last sphere's are those of the nodes, and all have
  -- their keys
  pub record Names (now : SphereColumns) (unresolved : List Bool) (last size : ℕ) (kids_at : ℕ → List ℕ) (keys : List ℤ) : Type 0
    where
      pub node_data : (place : ℕ) → IsWanted now unresolved last place
          → map named (kids_at (slice_index now.place_tree.nodes place)) ≡ children (node_of now place)
      pub same_key : (number : ℕ) → number < size → key_at keys number ≡ key (named number)
