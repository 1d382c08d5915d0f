-- Made records labelled, and the outcomes of their units counted. Own.
use Rattle.std.specs.Prelude.{◌≡◌, ℕ, zero, suc, List, [], ◌∷◌, ◌++◌, ◌+◌, Bool, ◌||◌, Result, Ok, Err}
use Rattle.std.specs.declared.option.Option.{Option}
use Rattle.std.specs.Io.KnownBytes.{Appends}
use Rattle.std.specs.List.{list_any}
use Rattle.cip_io.specs.Growth.{AppendsPrefix}
use Rattle.cip_make.specs.Made.{made}
use Rattle.cip_print.specs.declared.answer.Answer.{Answer}
use Rattle.cip_print.specs.Tallies as tallies
use Rattle.cip_print.specs.Tallies.{Counts, tally, summary_line}
use Rattle.cip_rank.specs.declared.rules.Rules.{Rules}
use Rattle.cip_answer.specs.Answers.{answer_by, is_flagged}
use Rattle.cip_batch.specs.declared.error.StreamError.{StreamError}
use Rattle.cip_batch.specs.declared.error.StreamError.TheVariants as stops
use Rattle.cip_batch.specs.Endings.{Grew}
use Rattle.cip_words.specs.Ranges.{Labelling, Series}
use Rattle.cip_commands.specs.declared.series.SeriesRecord.{SeriesRecord}

-- the answer to the made record of a number
unfoldable pub made_answer : Rules → ℕ → ℕ → ℕ → Answer
made_answer rules nodes start number = answer_by rules nodes (made start number)

abbrev pub answer_of : {D : Type 0} → SeriesRecord D → Answer
answer_of job = made_answer job.trial.labelling.rules job.trial.labelling.nodes job.trial.series.start job.number

-- the answers to the first n records of a series
abbrev pub made_answers : Rules → ℕ → ℕ → ℕ → List Answer
made_answers rules nodes start zero = []
made_answers rules nodes start (suc before) =
    made_answers rules nodes start before ++ made_answer rules nodes start (before + 1) ∷ []

abbrev pub answers_to : Series → Labelling → ℕ → List Answer
answers_to series labelling count = made_answers labelling.rules labelling.nodes series.start count

-- the line that counts the outcomes of their units
abbrev pub summary : List Answer → List ℕ
summary answers = summary_line (tally answers)

-- a record is refused, or a unit of one is over the bound
abbrev pub some_flagged : List Answer → Bool
some_flagged answers = list_any is_flagged answers

-- the outcomes of answers, counted, and whether one of the answers is flagged
pub record Counted : Type 0 where
  pub counts : Counts
  pub flagged : Bool

abbrev pub counted : List Answer → Counted
counted answers = record { counts = tally answers; flagged = some_flagged answers }

-- with one answer more
abbrev pub with_one : Counted → Answer → Counted
with_one count answer = record {
  counts = tallies.counted count.counts answer;
  flagged = count.flagged || is_flagged answer;
}

-- the summary was written, with this result
abbrev pub Sums : List Answer → Result Bool StreamError → Option (List ℕ) → Option (List ℕ) → Type 0
Sums answers (Ok flagged) old new = Grew (some_flagged answers ≡ flagged) (summary answers) old new
Sums answers (Err stops.WriteFault) old new = AppendsPrefix old new (summary answers)
Sums answers (Err stops.Memory) old new = Appends old new []
Sums answers (Err stops.ReadFault) old new = ⊥
Sums answers (Err stops.Limit) old new = ⊥
