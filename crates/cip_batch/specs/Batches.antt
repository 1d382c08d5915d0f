-- The records of a batch, and how they are answered. Own.
use Rattle.std.specs.Prelude.{◌≡◌, ◌+◌, ◌++◌, [], ◌∷◌, ℕ, List, Result, Ok, Err, length, if◌then◌else◌}
use Rattle.std.specs.declared.option.Option.{Option}
use Rattle.std.specs.Io.KnownBytes.{Appends}
use Rattle.cip_io.specs.Growth.{AppendsPrefix}
use Rattle.cip_frame.specs.Records.{is_blank_text, last_of}
use Rattle.cip_batch.specs.declared.error.StreamError.{StreamError}
use Rattle.cip_batch.specs.declared.error.StreamError.TheVariants as stops
use Rattle.cip_batch.specs.declared.status.StreamStatus.{StreamStatus}
use Rattle.cip_batch.specs.ExpectedOutput.{ExpectedOutput}
use Rattle.cip_batch.specs.Due.{verdict_from, texts_from}
use Rattle.cip_batch.specs.Endings.{Grew, GrewFrom}

-- the output for a record
pub record Output (N : Type 0) : Type 0 where
  pub text : List ℕ
  pub verdict : StreamStatus N

abbrev pub output_of : {N : Type 0} → ExpectedOutput N → ℕ → List ℕ → Output N
output_of expected number bytes = record { text = expected.text number bytes; verdict = expected.verdict number bytes }

-- the output for records that are numbered from this number on
abbrev pub told_from : {N : Type 0} → ExpectedOutput N → ℕ → List (List ℕ) → List (Output N)
told_from expected number [] = []
told_from expected number (bytes ∷ records) = output_of expected number bytes ∷ told_from expected (number + 1) records

-- the records that wait for their answers, the number of the first of them, and what processes them
pub record Gathered (T : Type 0) : Type 0 where
  pub processor : T
  pub first : ℕ
  pub records : List (List ℕ)

-- records that are numbered from this number on were answered one after the other, with this result, which says what
-- they add to the end of the run
abbrev pub Answers : {N : Type 0} → ExpectedOutput N → ℕ → List (List ℕ) → Result (StreamStatus N) StreamError → Option (List ℕ)
    → Option (List ℕ) → Type 0
Answers expected number records (Ok verdict) old new =
    Grew (verdict_from expected number records ≡ verdict) (texts_from expected number records) old new
Answers expected number records (Err stops.WriteFault) old new =
    AppendsPrefix old new (texts_from expected number records)
Answers expected number records (Err stops.Memory) old new = GrewFrom expected number records old new
Answers expected number records (Err stops.ReadFault) old new = ⊥
Answers expected number records (Err stops.Limit) old new = ⊥

-- the records in front of those that are gathered still were answered, and add this to the end of the run
pub record Advances {N : Type 0} (expected : ExpectedOutput N) (number : ℕ) (records : List (List ℕ)) (first : ℕ)
    (waiting : List (List ℕ)) (verdict : StreamStatus N) (old new : Option (List ℕ)) : Type 0 where
  pub answered : List (List ℕ)
  pub parts : answered ++ waiting ≡ records
  pub next : first ≡ number + length answered
  pub output : verdict_from expected number answered ≡ verdict
  pub written : Appends old new (texts_from expected number answered)

-- the first of these records were answered, with this result, and the others wait
abbrev pub AnswersFirst : {N : Type 0} → ExpectedOutput N → ℕ → List (List ℕ) → ℕ → List (List ℕ) → Result (StreamStatus N) StreamError
    → Option (List ℕ) → Option (List ℕ) → Type 0
AnswersFirst expected number records first waiting (Ok verdict) old new =
    Advances expected number records first waiting verdict old new
AnswersFirst expected number records first waiting (Err stop) old new = Answers expected number records (Err stop) old new

-- the blank lines that follow the last record, where they are kept
abbrev pub blank_of : {N : Type 0} → ExpectedOutput N → List ℕ → List ℕ
blank_of expected rest = if expected.keeps_blank_tail then (if is_blank_text rest then rest else []) else []

-- gathered records and what follows the last closed record were answered, with this result
abbrev pub AnswersTail : {N : Type 0} → ExpectedOutput N → ℕ → List (List ℕ) → List ℕ → Result (StreamStatus N) StreamError
    → Option (List ℕ) → Option (List ℕ) → Type 0
AnswersTail expected number records rest (Ok verdict) old new =
    Grew (verdict_from expected number (records ++ last_of rest) ≡ verdict)
    (texts_from expected number (records ++ last_of rest) ++ blank_of expected rest) old new
AnswersTail expected number records rest (Err stops.WriteFault) old new =
    AppendsPrefix old new (texts_from expected number (records ++ last_of rest) ++ blank_of expected rest)
AnswersTail expected number records rest (Err stops.Memory) old new =
    GrewFrom expected number (records ++ last_of rest) old new
AnswersTail expected number records rest (Err stops.ReadFault) old new = ⊥
AnswersTail expected number records rest (Err stops.Limit) old new = ⊥
