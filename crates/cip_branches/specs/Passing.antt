-- A rule taken one sphere further, over the present numbers. Own.
use Rattle.std.specs.Prelude.{◌≡◌, ◌≢◌, ◌≤◌, ℕ, ℤ, suc, List, slice_index}
use Rattle.std.specs.List.{AllByRecursion}
use Rattle.std.specs.Ordering.{int_cmp, then_cmp, on}
use Rattle.cip_rank.specs.Ranking.{by_number}
use Rattle.cip_partition.specs.Kids.{kid_set}
use Rattle.cip_branches.specs.Refining.{Refines}
use Rattle.cip_partition.specs.Rows.{IsRow, OrdersPlaces}

-- Numbers order each sphere up to `far` by the sets of children as well, where no child is new. A new place has a
-- number that no row has.
pub record AreSteadyButNew (kids : ℕ → List ℕ) (At : ℕ → ℕ → Type 0) (far new : ℕ) (numbers : List ℕ) : Type 0 where
  pub same : (t a b : ℕ) → t ≤ far → At t a → At t b → slice_index numbers a ≡ slice_index numbers b
      → AllByRecursion (λ kid. slice_index numbers kid ≢ new) (kids a)
      → AllByRecursion (λ kid. slice_index numbers kid ≢ new) (kids b)
      → kid_set kids numbers a ≡ kid_set kids numbers b

-- the numbers of all places but those in some rows are noted as those of before
pub record AreNotedBut (rows : List ℕ) (from to : ℕ) (before numbers : List ℕ) : Type 0 where
  pub each : (place : ℕ) → (IsRow rows from to place → ⊥) → slice_index before place ≡ slice_index numbers place

-- The sphere after `far` is split by keys, and the spheres further in are refined by it. The others are unchanged.
pub record Passes (kids : ℕ → List ℕ) (At : ℕ → ℕ → Type 0) (far : ℕ) (key : ℕ → ℤ) (before now : List ℕ) : Type 0
  where
    pub start : List ℕ
    pub split : OrdersPlaces (At (suc far)) (then_cmp (by_number before) (on key int_cmp)) start
    pub others : (t place : ℕ) → t ≢ suc far → At t place → slice_index start place ≡ slice_index before place
    pub refines : Refines kids At far 0 start now
