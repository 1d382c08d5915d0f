-- How gathered records are answered where nothing more is read, and what a whole run leaves. Own.
use Rattle.std.specs.Prelude.{◌≡◌, ◌+◌, ◌++◌, ℕ, List, Result, Ok, Err, IsOk, IsErrOf, IfSome}
use Rattle.std.specs.declared.option.Option.{Option}
use Rattle.std.specs.Io.KnownBytes.{IsAtEnd}
use Rattle.cip_frame.specs.Framing.{Framing}
use Rattle.cip_batch.specs.declared.limits.Limits.{Limits}
use Rattle.cip_batch.specs.declared.streams.input.InputEnd.{InputEnd}
use Rattle.cip_batch.specs.declared.streams.input.InputEnd.TheVariants.{End, Fault, Limit}
use Rattle.cip_batch.specs.declared.error.StreamError.{StreamError}
use Rattle.cip_batch.specs.declared.error.StreamError.TheVariants as stops
use Rattle.cip_batch.specs.declared.status.StreamStatus.{StreamStatus}
use Rattle.cip_batch.specs.Batches.{Answers, AnswersTail}
use Rattle.cip_batch.specs.Endings.{AnswersTaken, EndsAs}
use Rattle.cip_batch.specs.ExpectedOutput.{ExpectedOutput}
use Rattle.cip_batch.specs.Reading.{TakesAtMost}

-- the cause for which it ends after records, unless those stopped it
abbrev pub ended_by : {N : Type 0} → StreamError → Result (StreamStatus N) StreamError → Result (StreamStatus N) StreamError
ended_by cause (Ok verdict) = Err cause
ended_by cause (Err stop) = Err stop

-- these records were answered, and then it ended for this cause
pub record AnswersLast {N : Type 0} (expected : ExpectedOutput N) (cause : StreamError) (number : ℕ) (records : List (List ℕ))
    (result : Result (StreamStatus N) StreamError) (old new : Option (List ℕ)) : Type 0 where
  pub answered : Result (StreamStatus N) StreamError
  pub grew : Answers expected number records answered old new
  pub ended : result ≡ ended_by cause answered

-- the records that are gathered were answered, with those that the framer holds after them, and with this result
abbrev pub AnswersHalted : {N : Type 0} → ExpectedOutput N → InputEnd → ℕ → List (List ℕ) → Framing → Result (StreamStatus N) StreamError
    → Option (List ℕ) → Option (List ℕ) → Type 0
AnswersHalted expected End number records framer result old new =
    AnswersTail expected number records framer.open_bytes result old new
AnswersHalted expected Fault number records framer result old new =
    AnswersLast expected stops.ReadFault number records result old new
AnswersHalted expected Limit number records framer result old new =
    AnswersLast expected stops.Limit number (records ++ framer.waiting) result old new

-- a source was read and its records were answered, with this result
pub record AnswersSource {N : Type 0} (expected : ExpectedOutput N) (limits : Limits) (result : Result (StreamStatus N) StreamError)
    (left rest old new : Option (List ℕ)) : Type 0 where
  pub ended : IfSome left (EndsAs expected limits result old new)
  pub whole : IsOk result → IsAtEnd rest
  pub read_fault : IsErrOf result stops.ReadFault → AnswersTaken expected limits left rest old new
  pub bounded : TakesAtMost (limits.input + 1) left rest
