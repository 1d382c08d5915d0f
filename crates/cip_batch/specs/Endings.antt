-- How answering ends, and what the sink took by then. Own.
use Rattle.std.specs.Prelude.{◌≡◌, ℕ, List, Result, Ok, Err, None, ⊤, true}
use Rattle.std.specs.declared.option.Option.{Option}
use Rattle.std.specs.Option.{is_some}
use Rattle.std.specs.Io.KnownBytes.{Appends, Consumes}
use Rattle.cip_io.specs.Growth.{AppendsPrefix}
use Rattle.cip_frame.specs.Records.{cut_of}
use Rattle.cip_frame.specs.Framing.{IsFrontOf}
use Rattle.cip_batch.specs.declared.limits.Limits.{Limits}
use Rattle.cip_batch.specs.declared.error.StreamError.{StreamError}
use Rattle.cip_batch.specs.declared.error.StreamError.TheVariants as stops
use Rattle.cip_batch.specs.Limits.{limit_place, answered}
use Rattle.cip_batch.specs.declared.status.StreamStatus.{StreamStatus}
use Rattle.cip_batch.specs.ExpectedOutput.{ExpectedOutput}
use Rattle.cip_batch.specs.Due.{verdict_of, texts_from, texts_of, due}

-- P holds, and the sink grew by this text
pub record Grew (P : Type 0) (text : List ℕ) (old new : Option (List ℕ)) : Type 0 where
  pub holds : P
  pub written : Appends old new text

-- the sink grew by the texts of the first of these records, which are numbered from this number on, and by no part of
-- another
pub record GrewFrom {N : Type 0} (expected : ExpectedOutput N) (number : ℕ) (records : List (List ℕ))
    (old new : Option (List ℕ)) : Type 0 where
  pub before : List (List ℕ)
  pub front : IsFrontOf before records
  pub written : Appends old new (texts_from expected number before)

-- the same for the records of a stream
abbrev pub GrewTo : {N : Type 0} → ExpectedOutput N → List (List ℕ) → Option (List ℕ) → Option (List ℕ) → Type 0
GrewTo expected records old new = GrewFrom expected 1 records old new

-- no limit is passed, and the records add this to the end of the run
pub record IsWhole {N : Type 0} (expected : ExpectedOutput N) (limits : Limits) (verdict : StreamStatus N)
    (bytes : List ℕ) : Type 0 where
  pub unlimited : limit_place limits bytes ≡ None
  pub output : verdict_of expected (answered limits bytes) ≡ verdict

-- a limit is passed
abbrev pub IsLimited : Limits → List ℕ → Type 0
IsLimited limits bytes = is_some (limit_place limits bytes) ≡ true

-- a stream of these bytes was answered, with this result
abbrev pub EndsAs : {N : Type 0} → ExpectedOutput N → Limits → Result (StreamStatus N) StreamError → Option (List ℕ) → Option (List ℕ)
    → List ℕ → Type 0
EndsAs expected limits (Ok verdict) old new bytes =
    Grew (IsWhole expected limits verdict bytes) (due expected limits bytes) old new
EndsAs expected limits (Err stops.Limit) old new bytes =
    Grew (IsLimited limits bytes) (due expected limits bytes) old new
EndsAs expected limits (Err stops.WriteFault) old new bytes = AppendsPrefix old new (due expected limits bytes)
EndsAs expected limits (Err stops.Memory) old new bytes = GrewTo expected (answered limits bytes) old new
EndsAs expected limits (Err stops.ReadFault) old new bytes = ⊤

-- no limit is passed by what was taken, and the sink grew by the texts of the records that are closed in it
pub record AnswersTaken {N : Type 0} (expected : ExpectedOutput N) (limits : Limits)
    (left rest old new : Option (List ℕ)) : Type 0 where
  pub taken : List ℕ
  pub consumed : Consumes left rest taken
  pub unlimited : limit_place limits taken ≡ None
  pub written : Appends old new (texts_of expected (cut_of taken).whole)
