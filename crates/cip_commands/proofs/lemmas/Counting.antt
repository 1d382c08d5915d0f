-- Answers to made records, counted batch by batch.
use Rattle.std.proofs.Common.{◌≡◌, ◌+◌, ℕ, suc, List, [], ◌∷◌, ◌++◌, Bool, arith, ◌||◌, Option, Result, Ok, Err, IfOk, sym, ap, ◌∙◌, subst, append_assoc, append-nil, fold, map}
use Rattle.std.proofs.Math.Bool.{or-false}
use Rattle.std.proofs.lemmas.List.{map-append}
use Rattle.std.proofs.lemmas.List.Folds.{list_any-append}
use Rattle.std.proofs.lemmas.List.Sums.{fold-append}
use Rattle.std.specs.Io.KnownBytes.{Appends}
use Rattle.cip_io.specs.Growth.{AppendsPrefix}
use Rattle.cip_batch.specs.declared.error.StreamError.{StreamError}
use Rattle.cip_batch.specs.declared.error.StreamError.TheVariants as stops
use Rattle.cip_print.specs.declared.answer.Answer.{Answer}
use Rattle.cip_print.specs.Tallies as tallies
use Rattle.cip_print.specs.Tallies.{Counts, summary_line}
use Rattle.cip_answer.specs.Answers.{is_flagged}
use Rattle.cip_commands.specs.declared.series.SeriesRecord.{SeriesRecord}
use Rattle.cip_commands.specs.declared.series.LabelledSeries.{LabelledSeries}
use Rattle.cip_commands.specs.Making.{Writes}
use Rattle.cip_commands.specs.Trying.{Counted, Sums, answer_of, answers_to, counted, made_answer, some_flagged, with_one}

abbrev pair : Counts → Bool → Counted
pair counts flagged = record { counts = counts; flagged = flagged }

both : (counts now : Counts) (flagged output : Bool) → counts ≡ now → flagged ≡ output → pair counts flagged ≡ pair now output
both counts now flagged output same alike = ap (λ c. pair c flagged) same ∙ ap (pair now) alike

one_more : (before : List Answer) (answer : Answer) → with_one (counted before) answer ≡ counted (before ++ answer ∷ [])
one_more before answer =
    both _ _ _ _ (sym (fold-append tallies.counted tallies.nothing before (answer ∷ [])))
    (ap (λ flagged. some_flagged before || flagged) (sym (or-false (is_flagged answer)))
    ∙ sym (list_any-append is_flagged before (answer ∷ [])))

with_more : (before answers : List Answer) → fold with_one (counted before) answers ≡ counted (before ++ answers)
with_more before [] = ap counted (sym (append-nil before))
with_more before (answer ∷ answers) =
    ap (λ count. fold with_one count answers) (one_more before answer) ∙ with_more (before ++ answer ∷ []) answers
    ∙ ap counted (append_assoc before (answer ∷ []) answers)

-- a batch more is counted
pub batch_counted : {D : Type 0} (before answers all : List Answer) (jobs : List (SeriesRecord D)) (count now : Counted)
    → count ≡ counted before → now ≡ fold with_one count answers → answers ≡ map answer_of jobs
    → before ++ map answer_of jobs ≡ all → now ≡ counted all
batch_counted {D} before answers all jobs count now so_far added found whole =
    added ∙ ap (λ c. fold with_one c answers) so_far ∙ with_more before answers
    ∙ ap (λ more. counted (before ++ more)) found ∙ ap counted whole

-- one job more

next_answer : (trial : LabelledSeries) (before : ℕ) → answers_to trial.series trial.labelling before
    ++ made_answer trial.labelling.rules trial.labelling.nodes trial.series.start (before + 1) ∷ []
    ≡ answers_to trial.series trial.labelling (before + 1)
next_answer trial before =
    let next : suc before ≡ before + 1 = omega arith in ap (answers_to trial.series trial.labelling) next

job_answer : {D : Type 0} (trial : LabelledSeries) (number : ℕ) (job : SeriesRecord D) → job.trial ≡ trial → job.number ≡ number
    → answer_of job ≡ made_answer trial.labelling.rules trial.labelling.nodes trial.series.start number
job_answer trial number job of is =
    ap (λ (t : LabelledSeries). made_answer t.labelling.rules t.labelling.nodes t.series.start job.number) of
    ∙ ap (made_answer trial.labelling.rules trial.labelling.nodes trial.series.start) is

-- with the next job the answers are those to one record more
pub job_more : {D : Type 0} (front : List Answer) (trial : LabelledSeries) (before : ℕ) (jobs now : List (SeriesRecord D))
    (job : SeriesRecord D) → now ≡ jobs ++ job ∷ [] → job.trial ≡ trial → job.number ≡ before + 1
    → front ++ map answer_of jobs ≡ answers_to trial.series trial.labelling before
    → front ++ map answer_of now ≡ answers_to trial.series trial.labelling (before + 1)
job_more front trial before jobs now job pushed of is so_far =
    ap (λ jobs. front ++ map answer_of jobs) pushed
    ∙ ap (λ answers. front ++ answers) (map-append answer_of jobs (job ∷ []))
    ∙ sym (append_assoc front (map answer_of jobs) (answer_of job ∷ []))
    ∙ ap (λ answers. answers ++ answer_of job ∷ []) so_far
    ∙ ap (λ answer. answers_to trial.series trial.labelling before ++ answer ∷ [])
    (job_answer trial (before + 1) job of is)
    ∙ next_answer trial before

-- the summary of what was counted is that of the answers
pub summed : (answers : List Answer) (count : Counted) (result : Result Bool StreamError) (old new : Option (List ℕ))
    → count ≡ counted answers → Writes (summary_line count.counts) result old new
    → IfOk result (λ flagged. flagged ≡ count.flagged) → Sums answers result old new
summed answers count (Ok flagged) old new whole written same = record {
  holds = sym (same ∙ ap (λ (c : Counted). c.flagged) whole);
  written = subst (λ (c : Counted). Appends old new (summary_line c.counts)) whole written;
}
summed answers count (Err stops.WriteFault) old new whole written same =
    subst (λ (c : Counted). AppendsPrefix old new (summary_line c.counts)) whole written
summed answers count (Err stops.Memory) old new whole written same = written
summed answers count (Err stops.ReadFault) old new whole written same = elim written [ ]
summed answers count (Err stops.Limit) old new whole written same = elim written [ ]
