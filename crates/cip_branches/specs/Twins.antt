-- Branches doubled, for a rule that reads each of them twice. Own.
use Rattle.std.specs.Prelude.{◌≡◌, ◌<◌, ◌≤◌, ◌+◌, ◌++◌, ◌∷◌, ℕ, List, [], length, map, min, slice_index, take}
use Rattle.cip_branches.specs.Deciding.{Branched}
use Rattle.cip_branches.specs.SphereColumns.{SphereColumns}
use Rattle.cip_partition.specs.PlaceTree.{IsFamily}
use Rattle.cip_partition.specs.Twins.{twice, twin_kin, twin_ranked, twin_wanted}

-- spheres begin at twice the rows; after the last one of n is one without places
abbrev pub twin_starts : ℕ → ℕ → ℕ → List ℕ → List ℕ
twin_starts count kept rows starts = map (twice count) (take kept starts) ++ (rows + rows) ∷ []

-- how many spheres before that one
abbrev pub kept_spheres : ℕ → ℕ → ℕ
kept_spheres last count = min count (last + 1)

abbrev pub twin_layers : ℕ → ℕ → SphereColumns → SphereColumns
twin_layers room last layers = record {
  place_tree = twin_kin room layers.place_tree;
  ranked = twin_ranked room (length layers.place_tree.place_parents) layers.ranked;
  starts = twin_starts (length layers.place_tree.place_parents) (kept_spheres last (length layers.place_tree.place_parents) + 1)
      (length layers.ranked.rows) layers.starts;
  before = map (twice (length layers.place_tree.place_parents)) layers.ranked.numbers
      ++ map (twice (length layers.place_tree.place_parents)) layers.ranked.numbers;
}

abbrev pub twins_of : ℕ → Branched → Branched
twins_of room from = record {
  layers = twin_layers room from.last from.layers;
  unresolved = twin_wanted (length from.layers.place_tree.place_parents) from.unresolved;
  first = length from.layers.place_tree.place_parents + length from.layers.place_tree.place_parents;
  last = kept_spheres from.last (length from.layers.place_tree.place_parents);
}

-- what holds of branches that can be doubled
pub record MayDouble (from : Branched) : Type 0 where
  pub family : IsFamily from.layers.place_tree
  pub rows_len : length from.layers.ranked.rows ≤ length from.layers.place_tree.place_parents
  pub numbers_len : length from.layers.ranked.numbers ≡ length from.layers.place_tree.place_parents
  pub below : (k : ℕ) → k < length from.layers.ranked.rows
      → slice_index from.layers.ranked.rows k < length from.layers.place_tree.place_parents
  pub tops : length from.unresolved ≤ length from.layers.place_tree.place_parents
