-- Spheres refined inwards, without a word of nodes: each by the sets of its children's new numbers. Own.
use Rattle.std.specs.Prelude.{◌≡◌, ◌<◌, ◌≤◌, ℕ, suc, List, slice_index}
use Rattle.std.specs.List.{AllByRecursion}
use Rattle.std.specs.Ordering.{nat_cmp, then_cmp, on}
use Rattle.std.specs.Cmp.Lexicographic.{slice_cmp}
use Rattle.cip_rank.specs.Ranking.{by_number}
use Rattle.cip_partition.specs.Kids.{kid_set}
use Rattle.cip_partition.specs.Rows.{OrdersPlaces}

module _ (kids : ℕ → List ℕ) (At : ℕ → ℕ → Type 0) (far : ℕ) where
  -- places that tie have the same sets
  pub record AreSteady (numbers : List ℕ) : Type 0 where
    pub same : (t a b : ℕ) → t ≤ far → At t a → At t b → slice_index numbers a ≡ slice_index numbers b
        → kid_set kids numbers a ≡ kid_set kids numbers b

  -- children are in the next sphere
  pub record AreNext : Type 0 where
    pub next : (t place : ℕ) → t ≤ far → At t place → AllByRecursion (At (suc t)) (kids place)

  -- The spheres from `inner` to `far` are ordered by their numbers at the start, and then by the sets of their
  -- children's numbers now; all other spheres are unchanged.
  pub record Refines (inner : ℕ) (start now : List ℕ) : Type 0 where
    pub ordered : (t : ℕ) → inner ≤ t → t ≤ far
        → OrdersPlaces (At t) (then_cmp (by_number start) (on (kid_set kids now) (slice_cmp nat_cmp))) now
    pub inside : (t place : ℕ) → t < inner → At t place → slice_index now place ≡ slice_index start place
    pub outside : (t place : ℕ) → far < t → At t place → slice_index now place ≡ slice_index start place
