-- The text that is due for a stream: those of its records, in order. Own.
use Rattle.std.specs.Prelude.{ℕ, List, [], ◌∷◌, ◌+◌, ◌++◌, ◌||◌, Bool, not, if◌then◌else◌}
use Rattle.std.specs.Option.{is_some}
use Rattle.cip_frame.specs.Records.{blank_tail}
use Rattle.cip_batch.specs.declared.limits.Limits.{Limits}
use Rattle.cip_batch.specs.Limits.{limit_place, answered}
use Rattle.cip_batch.specs.declared.status.StreamStatus.{StreamStatus}
use Rattle.cip_batch.specs.ExpectedOutput.{ExpectedOutput}
use Rattle.cip_batch.specs.Verdicts.{clear, joined}

-- the texts of records that are numbered from this number on, one after the other
abbrev pub texts_from : {N : Type 0} → ExpectedOutput N → ℕ → List (List ℕ) → List ℕ
texts_from expected number [] = []
texts_from expected number (bytes ∷ records) = expected.text number bytes ++ texts_from expected (number + 1) records

-- the texts of the records of a stream
abbrev pub texts_of : {N : Type 0} → ExpectedOutput N → List (List ℕ) → List ℕ
texts_of expected records = texts_from expected 1 records

-- what records that are numbered from this number on add to the end of a run
abbrev pub verdict_from : {N : Type 0} → ExpectedOutput N → ℕ → List (List ℕ) → StreamStatus N
verdict_from expected number [] = clear
verdict_from expected number (bytes ∷ records) =
    joined (expected.verdict number bytes) (verdict_from expected (number + 1) records)

abbrev pub verdict_of : {N : Type 0} → ExpectedOutput N → List (List ℕ) → StreamStatus N
verdict_of expected records = verdict_from expected 1 records

-- whether one of these records is flagged
abbrev pub are_flagged : {N : Type 0} → ExpectedOutput N → List (List ℕ) → Bool
are_flagged expected records = (verdict_of expected records).flagged

-- the blank tail follows where it is kept and no limit is passed
abbrev pub tail_due : {N : Type 0} → ExpectedOutput N → Limits → List ℕ → List ℕ
tail_due expected limits bytes =
    if is_some (limit_place limits bytes) || not expected.keeps_blank_tail then [] else blank_tail bytes

-- the text that is due for all the bytes of a stream
abbrev pub due : {N : Type 0} → ExpectedOutput N → Limits → List ℕ → List ℕ
due expected limits bytes = texts_of expected (answered limits bytes) ++ tail_due expected limits bytes
