-- What is due for the records of a stream, one by one, and whether blank lines after the last one are kept. Own.
use Rattle.std.specs.Prelude.{ℕ, List, Bool}
use Rattle.cip_batch.specs.declared.status.StreamStatus.{StreamStatus}

-- for the record of this number, counted from 1, with these bytes: its text, and what it adds to the end of a run
pub record ExpectedOutput (N : Type 0) : Type 0 where
  pub text : ℕ → List ℕ → List ℕ
  pub verdict : ℕ → List ℕ → StreamStatus N
  pub keeps_blank_tail : Bool
