-- Which branches are looked at further: those that tie with another one. Own.
use Rattle.std.specs.Prelude.{◌≡◌, ◌≢◌, ◌<◌, ℕ, Bool, true, List, length, slice_index}
use Rattle.cip_partition.specs.Parting.{has_flag}

-- another unresolved branch whose top has the same number
pub record TiesWith (numbers : List ℕ) (unresolved : List Bool) (branch other : ℕ) : Type 0 where
  pub within : other < length unresolved
  pub chosen : has_flag unresolved other ≡ true
  pub apart : other ≢ branch
  pub tie : slice_index numbers other ≡ slice_index numbers branch

-- an unresolved branch that some other one ties with
pub record IsOpen (numbers : List ℕ) (unresolved : List Bool) (branch : ℕ) : Type 0 where
  pub chosen : has_flag unresolved branch ≡ true
  pub other : ℕ
  pub ties : TiesWith numbers unresolved branch other

-- flags of exactly the open ones, as far as a branch
pub record FlagOpen (numbers : List ℕ) (unresolved : List Bool) (past : ℕ) (flags : List Bool) : Type 0 where
  pub open_only : (branch : ℕ) → branch < past → has_flag flags branch ≡ true → IsOpen numbers unresolved branch
  pub all_open : (branch : ℕ) → branch < past → IsOpen numbers unresolved branch → has_flag flags branch ≡ true
