-- Where a stream passes a limit, and which of its records are answered. Own.
use Rattle.std.specs.Prelude.{ℕ, zero, suc, List, ◌+◌, ◌-◌, Bool, ◌||◌, nat_lt, length, take, Some, None, if◌then◌else◌}
use Rattle.std.specs.declared.option.Option.{Option}
use Rattle.cip_frame.specs.Records.{cut_of, records_of}
use Rattle.cip_batch.specs.declared.limits.Limits.{Limits}

-- the byte of this number, counted from 1, is one too many of the input, or of the record that is open before it
abbrev pub passes : Limits → List ℕ → ℕ → Bool
passes limits bytes number =
    nat_lt limits.input number
    || nat_lt limits.record (length (cut_of (take (number - 1) bytes)).rest + 1)

-- the first such number among n from this one on
abbrev pub first_passing : Limits → List ℕ → ℕ → ℕ → Option ℕ
first_passing limits bytes number zero = None
first_passing limits bytes number (suc more) =
    if passes limits bytes number then Some number else first_passing limits bytes (number + 1) more

-- the least number of a byte that is one too many
unfoldable pub limit_place : Limits → List ℕ → Option ℕ
limit_place limits bytes = first_passing limits bytes 1 (length bytes)

abbrev pub answered_to : List ℕ → Option ℕ → List (List ℕ)
answered_to bytes None = records_of bytes
answered_to bytes (Some number) = (cut_of (take (number - 1) bytes)).whole

-- The records that a run answers: all of them, or those that are closed before the limit is passed.
abbrev pub answered : Limits → List ℕ → List (List ℕ)
answered limits bytes = answered_to bytes (limit_place limits bytes)
