-- All columns of branches, by place, by row and by sphere. Own.
use Rattle.std.specs.Prelude.{◌≡◌, ◌<◌, ◌≤◌, ◌+◌, ◌^◌, ◌++◌, ◌∷◌, ℕ, Bool, List, [], length, slice_index}
use Rattle.cip_partition.specs.PlaceTree.{PlaceTree, with_place, with_children}
use Rattle.cip_partition.specs.Ranked.{Ranked, with_row}
use Rattle.cip_partition.specs.ReservedList.{ReservedList}
use Rattle.cip_partition.specs.Stirring.{NoFlags}

pub record SphereColumns : Type 0 where
  pub place_tree : PlaceTree
  pub ranked : Ranked
  pub starts : List ℕ
  pub before : List ℕ

-- each place has its entry in each column, and no class is to be looked at
pub record KeepLayers (place_tree : PlaceTree) (ranked : Ranked) (starts before : ReservedList ℕ) (flags : ReservedList Bool)
    (sets : ReservedList ℕ) : Type 0 where
  pub few : place_tree.room + 1 < 2 ^ 32
  pub fits : length place_tree.place_parents ≤ place_tree.room
  pub ranked_room : ranked.room ≡ place_tree.room
  pub starts_room : starts.room ≡ place_tree.room + 1
  pub starts_fit : length starts.items ≤ place_tree.room + 1
  pub before_room : before.room ≡ place_tree.room
  pub flags_room : flags.room ≡ place_tree.room
  pub sets_room : sets.room ≡ place_tree.room
  pub rows_len : length ranked.rows ≤ length place_tree.place_parents
  pub numbers_len : length ranked.numbers ≡ length place_tree.place_parents
  pub before_len : length before.items ≡ length place_tree.place_parents
  pub flags_len : length flags.items ≡ length place_tree.place_parents
  pub sets_len : length sets.items ≡ length place_tree.place_parents
  pub none : NoFlags flags.items

-- a place after all others, in a row of its own, with a number that no row has as that of before
abbrev pub with_new_place : ℕ → ℕ → ℕ → ℕ → SphereColumns → SphereColumns
with_new_place node branch parent_place number layers = record layers {
  place_tree = with_place node branch parent_place layers.place_tree;
  ranked = with_row number layers.ranked;
  before = layers.before ++ layers.place_tree.room ∷ [];
}

-- nodes after all others one after the other, below the same parent
abbrev pub with_nodes : List ℕ → ℕ → ℕ → ℕ → SphereColumns → SphereColumns
with_nodes [] branch parent_place number layers = layers
with_nodes (node ∷ nodes) branch parent_place number layers =
    with_nodes nodes branch parent_place number (with_new_place node branch parent_place number layers)

-- the children of a place, after all other places
abbrev pub with_kids : List ℕ → ℕ → ℕ → SphereColumns → SphereColumns
with_kids nodes parent_place number layers =
    let walked = with_nodes nodes (slice_index layers.place_tree.branches parent_place) parent_place number layers in
    record walked { place_tree = with_children parent_place (length layers.place_tree.place_parents) (length nodes) walked.place_tree }

-- no places, and the room of before
abbrev pub cleared : SphereColumns → SphereColumns
cleared layers = record {
  place_tree = record { room = layers.place_tree.room; nodes = []; branches = []; place_parents = []; firsts = []; counts = [] };
  ranked = record { room = layers.ranked.room; rows = []; numbers = [] };
  starts = [];
  before = [];
}

-- a sphere ends after all rows
abbrev pub with_sphere : SphereColumns → SphereColumns
with_sphere layers = record layers { starts = layers.starts ++ length layers.ranked.rows ∷ [] }

-- the tops of branches, counted from one on, in one class
abbrev pub with_tops : List ℕ → ℕ → SphereColumns → SphereColumns
with_tops [] branch layers = layers
with_tops (node ∷ nodes) branch layers = with_tops nodes (branch + 1) (with_new_place node branch 0 0 layers)

-- a first sphere of branches
abbrev pub begun_with : List ℕ → SphereColumns → SphereColumns
begun_with tops layers = with_sphere (with_tops tops 0 (with_sphere (cleared layers)))
