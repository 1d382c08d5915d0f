-- Made records one after the other, and how writing them ends. Own.
use Rattle.std.specs.Prelude.{ℕ, zero, suc, List, [], ◌++◌, ◌+◌, ◌≤◌, Result, Ok, Err}
use Rattle.std.specs.declared.option.Option.{Option}
use Rattle.std.specs.Io.KnownBytes.{Appends}
use Rattle.cip_io.specs.Growth.{AppendsPrefix}
use Rattle.cip_make.specs.Made.{made}
use Rattle.cip_batch.specs.declared.error.StreamError.{StreamError}
use Rattle.cip_batch.specs.declared.error.StreamError.TheVariants as stops

-- the text of the first n records of a series
abbrev pub made_text : ℕ → ℕ → List ℕ
made_text start zero = []
made_text start (suc before) = made_text start before ++ made start (before + 1)

-- the sink grew by the texts of the first records of a series, at most n
pub record GrewByMade (start records : ℕ) (old new : Option (List ℕ)) : Type 0 where
  pub count : ℕ
  pub few : count ≤ records
  pub written : Appends old new (made_text start count)

-- the text was written with this result, or nothing of it where memory was wanting
abbrev pub Writes : {A : Type 0} → List ℕ → Result A StreamError → Option (List ℕ) → Option (List ℕ) → Type 0
Writes text (Ok done) old new = Appends old new text
Writes text (Err stops.WriteFault) old new = AppendsPrefix old new text
Writes text (Err stops.Memory) old new = Appends old new []
Writes text (Err stops.ReadFault) old new = ⊥
Writes text (Err stops.Limit) old new = ⊥

-- n records of a series were made and written, with this result
abbrev pub Makes : {A : Type 0} → ℕ → ℕ → Result A StreamError → Option (List ℕ) → Option (List ℕ) → Type 0
Makes start records (Ok done) old new = Appends old new (made_text start records)
Makes start records (Err stops.WriteFault) old new = AppendsPrefix old new (made_text start records)
Makes start records (Err stops.Memory) old new = GrewByMade start records old new
Makes start records (Err stops.ReadFault) old new = ⊥
Makes start records (Err stops.Limit) old new = ⊥
