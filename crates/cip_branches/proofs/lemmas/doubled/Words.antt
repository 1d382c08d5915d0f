-- The words for branches that are doubled, and for their copies.
use Rattle.std.proofs.Common.{ℕ, List, length}
use Rattle.cip_branches.specs.Deciding.{Branched}
use Rattle.cip_partition.specs.Kids.{kids_of}
use Rattle.cip_branches.specs.Turning.{in_sphere}
use Rattle.cip_branches.specs.Twins.{kept_spheres, twins_of}

pub record Doubled : Type 1 where
  pub count : ℕ
  pub rows : List ℕ
  pub numbers : List ℕ
  pub starts : List ℕ
  pub At : ℕ → ℕ → Type 0
  pub kids : ℕ → List ℕ
  pub kept : ℕ
  pub twins : Branched
  pub new_rows : List ℕ
  pub new_numbers : List ℕ
  pub new_starts : List ℕ
  pub new_kids : ℕ → List ℕ

abbrev pub doubled : ℕ → Branched → Doubled
doubled room from = record {
  count = length from.layers.place_tree.place_parents;
  rows = from.layers.ranked.rows;
  numbers = from.layers.ranked.numbers;
  starts = from.layers.starts;
  At = in_sphere from.layers.ranked.rows from.layers.starts;
  kids = kids_of from.layers.place_tree;
  kept = kept_spheres from.last (length from.layers.place_tree.place_parents);
  twins = twins_of room from;
  new_rows = (twins_of room from).layers.ranked.rows;
  new_numbers = (twins_of room from).layers.ranked.numbers;
  new_starts = (twins_of room from).layers.starts;
  new_kids = kids_of (twins_of room from).layers.place_tree;
}
