-- The children of a place, and how places compare by the numbers of their children. Own.
use Rattle.std.specs.Prelude.{◌≡◌, ◌<◌, ◌≤◌, ℕ, Bool, true, List, length, map, slice_index}
use Rattle.std.specs.List.{AllByRecursion, range_with_len}
use Rattle.std.specs.Ordering.{nat_cmp, then_cmp, on}
use Rattle.std.specs.Cmp.Lexicographic.{slice_cmp}
use Rattle.std.specs.declared.cmp.Ordering.{Ordering}
use Rattle.cip_rank.specs.Comparison.{sorted_down}
use Rattle.cip_rank.specs.Ranking.{by_number}
use Rattle.cip_partition.specs.PlaceTree.{PlaceTree}
use Rattle.cip_partition.specs.Parting.{has_flag}
use Rattle.cip_partition.specs.Rows.{IsRow, number_in}

abbrev pub kids_by : List ℕ → List ℕ → ℕ → List ℕ
kids_by firsts counts place = range_with_len (slice_index firsts place) (slice_index counts place)

abbrev pub kids_of : PlaceTree → ℕ → List ℕ
kids_of place_tree = kids_by place_tree.firsts place_tree.counts

-- a place that is one of some
pub record IsAmong (places : List ℕ) (place : ℕ) : Type 0 where
  pub at : ℕ
  pub within : at < length places
  pub here : slice_index places at ≡ place

-- the numbers of a place's children, the highest first
abbrev pub kid_set : (ℕ → List ℕ) → List ℕ → ℕ → List ℕ
kid_set kids numbers place = sorted_down nat_cmp (map (slice_index numbers) (kids place))

-- by numbers, and where they tie by the sets of children
abbrev pub by_kids : (ℕ → List ℕ) → List ℕ → ℕ → ℕ → Ordering
by_kids kids numbers = then_cmp (by_number numbers) (on (kid_set kids numbers) (slice_cmp nat_cmp))

-- the children of the places in some rows know their parents
pub record KnowTheirKids (kids : ℕ → List ℕ) (place_parents rows : List ℕ) (from to : ℕ) : Type 0 where
  pub each : (place : ℕ) → IsRow rows from to place → AllByRecursion (λ kid. slice_index place_parents kid ≡ place) (kids place)

-- a column holds the sets of the places in some rows whose class has a flag
pub record HoldKidSets (kids : ℕ → List ℕ) (rows numbers : List ℕ) (from to : ℕ) (flags : List Bool) (sets : List ℕ) :
    Type 0 where
  pub each : (k : ℕ) → from ≤ k → k < to → has_flag flags (number_in rows numbers k) ≡ true
      → map (slice_index sets) (kids (slice_index rows k)) ≡ kid_set kids numbers (slice_index rows k)

-- places of a set that tie and whose number is clean have the same sets
pub record AreCalm (kids : ℕ → List ℕ) (P : ℕ → Type 0) (Calm : ℕ → Type 0) (numbers : List ℕ) : Type 0 where
  pub same : (a b : ℕ) → P a → P b → slice_index numbers a ≡ slice_index numbers b → Calm (slice_index numbers a)
      → kid_set kids numbers a ≡ kid_set kids numbers b
