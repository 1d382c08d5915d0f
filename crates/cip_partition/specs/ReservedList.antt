-- Items in memory that was taken at once. Own.
use Rattle.std.specs.Prelude.{ℕ, List}

-- room for n items, and those that are there
pub record ReservedList (T : Type 0) : Type 0 where
  pub room : ℕ
  pub items : List T
