-- Of each place its node, the branch that it is in, its parent, and the range of places in which its children are. Own.
use Rattle.std.specs.Prelude.{◌≡◌, ◌<◌, ◌≤◌, ◌+◌, ◌^◌, ◌++◌, ◌∷◌, ℕ, List, [], length, map, slice_index, slice_set}
use Rattle.cip_partition.specs.ReservedList.{ReservedList}
use Rattle.cip_partition.specs.declared.places.place.Place.{Place}

pub record PlaceTree : Type 0 where
  pub room : ℕ
  pub nodes : List ℕ
  pub branches : List ℕ
  pub place_parents : List ℕ
  pub firsts : List ℕ
  pub counts : List ℕ

-- each place has a node, a branch, a parent and a range within the places
pub record IsFamily (place_tree : PlaceTree) : Type 0 where
  pub nodes_len : length place_tree.nodes ≡ length place_tree.place_parents
  pub branches_len : length place_tree.branches ≡ length place_tree.place_parents
  pub firsts_len : length place_tree.firsts ≡ length place_tree.place_parents
  pub counts_len : length place_tree.counts ≡ length place_tree.place_parents
  pub within : (place : ℕ) → place < length place_tree.place_parents → slice_index place_tree.firsts place + slice_index place_tree.counts place
      ≤ length place_tree.place_parents

abbrev pub kin_of : ReservedList Place → PlaceTree
kin_of places = record {
  room = places.room;
  nodes = map (λ (p : Place). p.node) places.items;
  branches = map (λ (p : Place). p.branch) places.items;
  place_parents = map (λ (p : Place). p.parent_place) places.items;
  firsts = map (λ (p : Place). p.first) places.items;
  counts = map (λ (p : Place). p.count) places.items;
}

-- there is room for the places, and they are a family
pub record KeepKin (places : ReservedList Place) : Type 0 where
  pub few : places.room < 2 ^ 32
  pub fits : length places.items ≤ places.room
  pub family : IsFamily (kin_of places)

-- a place after all others, which has no children yet
abbrev pub with_place : ℕ → ℕ → ℕ → PlaceTree → PlaceTree
with_place node branch parent_place place_tree = record place_tree {
  nodes = place_tree.nodes ++ node ∷ [];
  branches = place_tree.branches ++ branch ∷ [];
  place_parents = place_tree.place_parents ++ parent_place ∷ [];
  firsts = place_tree.firsts ++ 0 ∷ [];
  counts = place_tree.counts ++ 0 ∷ [];
}

-- the range of a place's children
abbrev pub with_children : ℕ → ℕ → ℕ → PlaceTree → PlaceTree
with_children place first count place_tree = record place_tree {
  firsts = slice_set place_tree.firsts place first;
  counts = slice_set place_tree.counts place count;
}
