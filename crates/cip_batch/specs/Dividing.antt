-- What is due for a stream that is divided after a closed record. Own.
use Rattle.std.specs.Prelude.{◌≡◌, ◌++◌, ℕ, List, [], ◌∷◌, Bool, true, None}
use Rattle.cip_frame.specs.Records.{is_closing}
use Rattle.cip_batch.specs.declared.limits.Limits.{Limits}
use Rattle.cip_batch.specs.Due.{verdict_of, due}
use Rattle.cip_batch.specs.Limits.{limit_place, answered}
use Rattle.cip_batch.specs.ExpectedOutput.{ExpectedOutput}
use Rattle.cip_batch.specs.Verdicts.{joined}
use Rattle.cip_text.specs.Lines.{lines_of}

-- there is no line, or the last one is a terminator line that has its LF
abbrev pub are_closed : List (List ℕ) → Bool
are_closed [] = true
are_closed (line ∷ []) = is_closing line
are_closed (line ∷ next ∷ lines) = are_closed (next ∷ lines)

abbrev pub is_closed : List ℕ → Bool
is_closed bytes = are_closed (lines_of bytes)

-- what is due for a record doesn't depend on its number
pub record IsUnnumbered {N : Type 0} (expected : ExpectedOutput N) : Type 0 where
  pub texts : (one other : ℕ) (bytes : List ℕ) → expected.text one bytes ≡ expected.text other bytes
  pub verdicts : (one other : ℕ) (bytes : List ℕ) → expected.verdict one bytes ≡ expected.verdict other bytes

-- what is due for both parts of a stream is due for the one, and then for the other
pub record Divides {N : Type 0} (expected : ExpectedOutput N) (limits : Limits) (front behind : List ℕ) : Type 0 where
  pub front_within : limit_place limits front ≡ None
  pub behind_within : limit_place limits behind ≡ None
  pub text : due expected limits (front ++ behind) ≡ due expected limits front ++ due expected limits behind
  pub verdict : verdict_of expected (answered limits (front ++ behind))
      ≡ joined (verdict_of expected (answered limits front)) (verdict_of expected (answered limits behind))

-- where nothing that is due depends on a record's number, a stream within the limits can be divided after any closed
-- record
abbrev pub StreamsDivide : Type 0 → Type 0
StreamsDivide N = (expected : ExpectedOutput N) (limits : Limits) (front behind : List ℕ) → IsUnnumbered expected
    → is_closed front ≡ true → limit_place limits (front ++ behind) ≡ None → Divides expected limits front behind
