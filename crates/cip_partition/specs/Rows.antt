-- Rows of places, the lowest first in each sphere: the number of a place is the row at which its class begins. Own.
use Rattle.std.specs.Prelude.{◌≡◌, ◌<◌, ◌≤◌, ◌+◌, ◌⊎◌, ℕ, List, slice_index}
use Rattle.std.specs.declared.cmp.Ordering.{Ordering}
use Rattle.cip_rank.specs.Ranking.{by_number}

-- a place that is in one of these rows
pub record IsRow (rows : List ℕ) (first past place : ℕ) : Type 0 where
  pub row : ℕ
  pub low : first ≤ row
  pub high : row < past
  pub here : slice_index rows row ≡ place

abbrev pub number_in : List ℕ → List ℕ → ℕ → ℕ
number_in rows numbers row = slice_index numbers (slice_index rows row)

-- each row begins a class or goes on with that of the row before
pub record AreClassed (rows numbers : List ℕ) (first past : ℕ) : Type 0 where
  pub head : first < past → number_in rows numbers first ≡ first
  pub next : (row : ℕ) → first ≤ row → row + 1 < past
      → (number_in rows numbers (row + 1) ≡ number_in rows numbers row) ⊎ (number_in rows numbers (row + 1) ≡ row + 1)

-- the numbers order the places of a set as a comparison does
pub record OrdersPlaces (P : ℕ → Type 0) (compare : ℕ → ℕ → Ordering) (numbers : List ℕ) : Type 0 where
  pub each : (a b : ℕ) → P a → P b → by_number numbers a b ≡ compare a b
