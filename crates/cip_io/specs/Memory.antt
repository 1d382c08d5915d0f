-- What sources and a sink over memory hold. Own.
use Rattle.std.specs.Prelude.{ℕ, List}

-- a source: the bytes still to come, the most that one call gives, the calls made so far,
-- the numbers of the calls that fail, and the count of faults
pub record Supply : Type 0 where
  pub left : List ℕ
  pub piece : ℕ
  pub calls : ℕ
  pub failing : List ℕ
  pub faults : ℕ

-- a source that never fails
pub record SteadySupply : Type 0 where
  pub left : List ℕ
  pub piece : ℕ

-- a sink: the bytes taken so far, the most that one call takes, the room that is left, the calls
-- made so far, the numbers of the calls that fail, and the count of faults
pub record Store : Type 0 where
  pub taken : List ℕ
  pub piece : ℕ
  pub room : ℕ
  pub calls : ℕ
  pub failing : List ℕ
  pub faults : ℕ
