-- Branches that are followed as long as another one ties with them, and what the numbers of their tops say. Own.
use Rattle.std.specs.Prelude.{◌≡◌, ◌≢◌, ◌<◌, ◌≤◌, ℕ, ℤ, Bool, true, List, [], length, slice_index}
use Rattle.std.specs.declared.cmp.Ordering.{Ordering}
use Rattle.cip_rank.specs.Comparison.{comparison}
use Rattle.cip_rank.specs.Ranking.{by_number}
use Rattle.cip_branches.specs.Closing.{FlagOpen}
use Rattle.cip_branches.specs.Following.{AreRanked}
use Rattle.cip_branches.specs.SphereColumns.{SphereColumns}
use Rattle.cip_partition.specs.Parting.{has_flag}
use Rattle.cip_partition.specs.ReservedList.{ReservedList}
use Rattle.cip_branches.specs.Ruled.{WantsFewer, IsRuled}
use Rattle.cip_branches.specs.Turning.{in_sphere}
use Rattle.cip_branches.specs.Walking.{LastPlaces}

-- places, the flags of the branches that are still unresolved, the last sphere and its first place
pub record Branched : Type 0 where
  pub layers : SphereColumns
  pub unresolved : List Bool
  pub first : ℕ
  pub last : ℕ

-- no branches, and room for n places
abbrev pub no_branches : ℕ → Branched
no_branches room = record {
  layers = record {
    place_tree = record { room = room; nodes = []; branches = []; place_parents = []; firsts = []; counts = [] };
    ranked = record { room = room; rows = []; numbers = [] };
    starts = [];
    before = [];
  };
  unresolved = [];
  first = 0;
  last = 0;
}

-- the top of each branch has a place, and both columns of flags have an entry for it
pub record KeepBranches (layers : SphereColumns) (unresolved next_unresolved : ReservedList Bool) : Type 0 where
  pub wanted_room : unresolved.room ≡ layers.place_tree.room
  pub opens_room : next_unresolved.room ≡ layers.place_tree.room
  pub tops : length unresolved.items ≤ length layers.place_tree.place_parents
  pub opens_len : length next_unresolved.items ≡ length unresolved.items

-- flags of exactly those unresolved branches that another unresolved one ties with
pub record FlagsOpen (numbers : List ℕ) (unresolved flags : List Bool) : Type 0 where
  pub len : length flags ≡ length unresolved
  pub flagged : FlagOpen numbers unresolved (length unresolved) flags
  pub fewer : WantsFewer unresolved flags

-- each branch that is unresolved ties with another such, and has its top in the first sphere
pub record AreOpen (now : Branched) : Type 0 where
  pub tie : FlagsOpen now.layers.ranked.numbers now.unresolved now.unresolved
  pub top : (branch : ℕ) → has_flag now.unresolved branch ≡ true
      → in_sphere now.layers.ranked.rows now.layers.starts 0 branch

-- they are ranked up to the last sphere, of which a first place is known, and those that are distinguished are dropped
pub record AreFollowed (now : Branched) : Type 0 where
  pub ranked : AreRanked now.layers now.last
  pub places : (flags : List Bool) → LastPlaces now.layers flags now.first now.last
  pub within : now.first ≤ length now.layers.place_tree.place_parents
  pub nodes_len : length now.layers.place_tree.nodes ≡ length now.layers.place_tree.place_parents
  pub chosen : AreOpen now

module _ {N : Type 0} (children : N → List N) (earlier : N → N → Ordering) (key : N → ℤ) (named : ℕ → N) where
  -- The first sphere has the top of each branch. The numbers of any two tops compare as their branches do by a rule,
  -- within the spheres so far, and two that tie are still unresolved.
  pub record AreDecided (now : Branched) : Type 0 where
    pub ruled : IsRuled children earlier key named now.layers now.unresolved now.last
    pub top : (k : ℕ) → k < length now.unresolved → in_sphere now.layers.ranked.rows now.layers.starts 0 k
    pub only : (place : ℕ) → in_sphere now.layers.ranked.rows now.layers.starts 0 place → place < length now.unresolved
    pub branch : (k : ℕ) → k < length now.unresolved → slice_index now.layers.place_tree.branches k ≡ k
    pub node_data : (a b : ℕ) → a < length now.unresolved → b < length now.unresolved
        → by_number now.layers.ranked.numbers a b ≡ comparison children earlier key now.last
        (named (slice_index now.layers.place_tree.nodes a)) (named (slice_index now.layers.place_tree.nodes b))
    pub tie : (a b : ℕ) → a < length now.unresolved → b < length now.unresolved → a ≢ b
        → slice_index now.layers.ranked.numbers a ≡ slice_index now.layers.ranked.numbers b
        → has_flag now.unresolved a ≡ true
