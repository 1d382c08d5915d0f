-- Records that are answered one after the other.
use Rattle.std.proofs.Common.{Bool, Result, Ok, Err, ◌≡◌, ◌+◌, ℕ, suc, List, [], ◌∷◌, ◌++◌, length, Option, Some, None, true, false, refl, sym, ◌∙◌, ap, arith, add-zero, append_assoc, ◌||◌}
use Rattle.std.specs.Prelude.{OnErr}
use Rattle.std.specs.Io.KnownBytes.{Appends}
use Rattle.cip_io.proofs.lemmas.Growth.{appends_both, prefix_behind, prefix_longer}
use Rattle.cip_batch.specs.declared.error.StreamError.{StreamError}
use Rattle.cip_batch.specs.declared.error.StreamError.TheVariants as stops
use Rattle.cip_batch.specs.declared.status.StreamStatus.{StreamStatus}
use Rattle.cip_batch.specs.ExpectedOutput.{ExpectedOutput}
use Rattle.cip_batch.specs.Verdicts.{first_note, joined, joined_result}
use Rattle.cip_batch.specs.Due.{verdict_from, texts_from}
use Rattle.cip_batch.specs.Batches.{Answers, output_of, told_from}

pub where_refused : {T E P : Type 0} (result : Result T E) → P → OnErr result P
where_refused (Ok x) p = tt
where_refused (Err e) p = p

-- what is due for records, and for others after them

joined_notes : {N : Type 0} (one more behind : Option N)
    → first_note (first_note one more) behind ≡ first_note one (first_note more behind)
joined_notes (Some note) more behind = refl
joined_notes None more behind = refl

joined_flags : (one more behind : Bool) → (one || more) || behind ≡ one || (more || behind)
joined_flags true more behind = refl
joined_flags false more behind = refl

joined_all : {N : Type 0} (one more behind : StreamStatus N) → joined (joined one more) behind ≡ joined one
    (joined more behind)
joined_all one more behind =
    rw (joined_flags one.flagged more.flagged behind.flagged, joined_notes one.note more.note behind.note) refl

pub verdict_both : {N : Type 0} (expected : ExpectedOutput N) (number : ℕ) (xs ys : List (List ℕ))
    → verdict_from expected number (xs ++ ys)
    ≡ joined (verdict_from expected number xs) (verdict_from expected (number + length xs) ys)
verdict_both expected number [] ys = ap (λ n. verdict_from expected n ys) (sym (add-zero number))
verdict_both expected number (x ∷ xs) ys =
    let place : number + 1 + length xs ≡ number + suc (length xs) = omega arith in
    ap (joined (expected.verdict number x)) (verdict_both expected (number + 1) xs ys
    ∙ ap (λ n. joined (verdict_from expected (number + 1) xs) (verdict_from expected n ys)) place)
    ∙ sym (joined_all (expected.verdict number x) (verdict_from expected (number + 1) xs)
    (verdict_from expected (number + suc (length xs)) ys))

pub texts_both : {N : Type 0} (expected : ExpectedOutput N) (number : ℕ) (xs ys : List (List ℕ))
    → texts_from expected number (xs ++ ys)
    ≡ texts_from expected number xs ++ texts_from expected (number + length xs) ys
texts_both expected number [] ys = ap (λ n. texts_from expected n ys) (sym (add-zero number))
texts_both expected number (x ∷ xs) ys =
    let place : number + 1 + length xs ≡ number + suc (length xs) = omega arith in
    ap (λ text. expected.text number x ++ text) (texts_both expected (number + 1) xs ys
    ∙ ap (λ n. texts_from expected (number + 1) xs ++ texts_from expected n ys) place)
    ∙ sym (append_assoc (expected.text number x) (texts_from expected (number + 1) xs)
    (texts_from expected (number + suc (length xs)) ys))

pub told_both : {N : Type 0} (expected : ExpectedOutput N) (number : ℕ) (xs ys : List (List ℕ))
    → told_from expected number (xs ++ ys) ≡ told_from expected number xs ++ told_from expected (number + length xs) ys
told_both expected number [] ys = ap (λ n. told_from expected n ys) (sym (add-zero number))
told_both expected number (x ∷ xs) ys =
    let place : number + 1 + length xs ≡ number + suc (length xs) = omega arith in
    ap (λ output. output_of expected number x ∷ output) (told_both expected (number + 1) xs ys
    ∙ ap (λ n. told_from expected (number + 1) xs ++ told_from expected n ys) place)

-- how records were answered

-- records that stopped it did so whatever follows them
pub answers_longer : {N : Type 0} (expected : ExpectedOutput N) (number : ℕ) (stopped more : List (List ℕ)) (stop : StreamError)
    (old new : Option (List ℕ)) → Answers expected number stopped (Err stop) old new
    → Answers expected number (stopped ++ more) (Err stop) old new
answers_longer expected number stopped more stops.WriteFault old new answers =
    rw (texts_both expected number stopped more)
    (prefix_longer old new (texts_from expected number stopped) (texts_from expected (number + length stopped) more)
    answers)
answers_longer expected number stopped more stops.Memory old new answers = record {
  before = answers.before;
  front = record {
    more = answers.front.more ++ more;
    joined = ap (λ records. records ++ more) answers.front.joined
        ∙ append_assoc answers.before answers.front.more more;
  };
  written = answers.written;
}
answers_longer expected number stopped more stops.ReadFault old new answers = absurd answers
answers_longer expected number stopped more stops.Limit old new answers = absurd answers

-- records were answered after others
pub answers_behind : {N : Type 0} (expected : ExpectedOutput N) (number : ℕ) (before records : List (List ℕ))
    (verdict : StreamStatus N)
    (result : Result (StreamStatus N) StreamError) (old middle new : Option (List ℕ)) → verdict_from expected number before ≡ verdict
    → Appends old middle (texts_from expected number before)
    → Answers expected (number + length before) records result middle new
    → Answers expected number (before ++ records) (joined_result verdict result) old new
answers_behind expected number before records verdict (Ok more) old middle new output written grew = record {
  holds = rw (verdict_both expected number before records, output, grew.holds) refl;
  written = rw (texts_both expected number before records)
      (appends_both old middle new (texts_from expected number before)
      (texts_from expected (number + length before) records) written grew.written);
}
answers_behind expected number before records verdict (Err stops.WriteFault) old middle new output written answers =
    rw (texts_both expected number before records)
    (prefix_behind old middle new (texts_from expected number before)
    (texts_from expected (number + length before) records) written answers)
answers_behind expected number before records verdict (Err stops.Memory) old middle new output written answers = record {
  before = before ++ answers.before;
  front = record {
    more = answers.front.more;
    joined = ap (λ xs. before ++ xs) answers.front.joined
        ∙ sym (append_assoc before answers.before answers.front.more);
  };
  written = rw (texts_both expected number before answers.before)
      (appends_both old middle new (texts_from expected number before)
      (texts_from expected (number + length before) answers.before) written answers.written);
}
answers_behind expected number before records verdict (Err stops.ReadFault) old middle new output written answers =
    absurd answers
answers_behind expected number before records verdict (Err stops.Limit) old middle new output written answers =
    absurd answers
