-- How a run over a stream ends, by what the last turn brought.
use Rattle.std.proofs.Common.{◌≡◌, ◌≤◌, ◌<◌, ◌+◌, ◌^◌, ℕ, List, [], ◌∷◌, ◌++◌, length, true, false, Bool, Option, Some, None, Result, Ok, Err, IfSome, refl, sym, ◌∙◌, ap, arith, append_assoc, append-nil, length-append, subst, inl, inr, ◌⊎◌}
use Rattle.std.specs.Option.{is_some}
use Rattle.std.specs.List.{take_while}
use Rattle.std.specs.Io.KnownBytes.{Appends, Consumes, IsAtEnd}
use Rattle.cip_io.specs.Growth.{AppendsPrefix}
use Rattle.cip_frame.specs.Records.{cut_of, records_of, last_of}
use Rattle.cip_frame.specs.Framing.{Framing, fits}
use Rattle.cip_batch.specs.declared.limits.Limits.{Limits}
use Rattle.cip_batch.specs.declared.error.StreamError.{StreamError}
use Rattle.cip_batch.specs.declared.error.StreamError.TheVariants as stops
use Rattle.cip_batch.specs.Limits.{limit_place, answered}
use Rattle.cip_batch.specs.declared.status.StreamStatus.{StreamStatus}
use Rattle.cip_batch.specs.ExpectedOutput.{ExpectedOutput}
use Rattle.cip_batch.specs.Verdicts.{joined, joined_result}
use Rattle.cip_batch.specs.Due.{verdict_from, verdict_of, texts_from, texts_of, due, tail_due}
use Rattle.cip_batch.specs.Endings.{AnswersTaken, EndsAs, GrewFrom}
use Rattle.cip_batch.specs.Batches.{Advances, Answers, AnswersTail, blank_of}
use Rattle.cip_batch.specs.Reading.{Brings, Ends, Overfeeds, Overflows, StandsStill, TakesAtMost}
use Rattle.cip_batch.proofs.lemmas.Answered.{no_place, all_answered, whole_first, input_passed, record_passed, IsPassed}
use Rattle.cip_batch.proofs.lemmas.Batches.{no_memory, gathers, answers_both, same_next}
use Rattle.cip_batch.proofs.lemmas.Bounds.{consumes_both, takes_more}
use Rattle.cip_io.proofs.lemmas.Growth.{appends_both, prefix_behind, prefix_longer}
use Rattle.cip_batch.proofs.lemmas.Growing.{verdict_both, texts_both, answers_longer}
use Rattle.cip_batch.proofs.lemmas.Counting.{few_closed, fewer}
use Rattle.cip_batch.proofs.lemmas.Progressing.{Progress, Fed}

-- a bound on what was taken
pub bounded : {N : Type 0} (expected : ExpectedOutput N) (limits : Limits) (room : ℕ) (verdict : StreamStatus N)
    (left middle rest old new : Option (List ℕ)) (framer : Framing) (first : ℕ) (batch : List (List ℕ))
    → Progress expected limits room verdict left middle old new framer first batch → TakesAtMost (room + 1) middle rest
    → TakesAtMost (limits.input + 1) left rest
bounded expected limits room verdict left middle rest old new framer first batch before takes =
    takes_more (limits.input + 1) (room + 1) left middle rest before.fed before.taken takes
    (omega (arith, before.count))

-- what holds of all the bytes that a source had left

output : (left rest : Option (List ℕ)) (bytes : List ℕ) (P : List ℕ → Type 0) → Consumes left rest bytes
    → ((more : List ℕ) → P (bytes ++ more)) → IfSome left P
output None rest bytes P taken holds = tt
output (Some all) None bytes P taken holds = absurd taken
output (Some all) (Some more) bytes P taken holds = subst P (sym taken) (holds more)

told_whole : (left rest : Option (List ℕ)) (bytes : List ℕ) (P : List ℕ → Type 0) → Consumes left rest bytes
    → IsAtEnd rest → P bytes → IfSome left P
told_whole None rest bytes P taken end holds = tt
told_whole (Some all) None bytes P taken end holds = absurd taken
told_whole (Some all) (Some more) bytes P taken end holds =
    subst P (sym (taken ∙ ap (λ xs. bytes ++ xs) end ∙ append-nil bytes)) holds

-- records that stopped it

ends_stopped : {N : Type 0} (expected : ExpectedOutput N) (limits : Limits) (bytes : List ℕ) (stop : StreamError)
    (old new : Option (List ℕ))
    → Answers expected 1 (answered limits bytes) (Err stop) old new → EndsAs expected limits (Err stop) old new bytes
ends_stopped expected limits bytes stops.WriteFault old new answers =
    prefix_longer old new (texts_of expected (answered limits bytes)) (tail_due expected limits bytes) answers
ends_stopped expected limits bytes stops.Memory old new answers = answers
ends_stopped expected limits bytes stops.ReadFault old new answers = absurd answers
ends_stopped expected limits bytes stops.Limit old new answers = absurd answers

-- the closed records of what was fed stopped it
pub stopped_fed : {N : Type 0} (expected : ExpectedOutput N) (limits : Limits) (room : ℕ) (verdict : StreamStatus N) (stop : StreamError)
    (left rest old half new : Option (List ℕ)) (framer : Framing) (first : ℕ) (gathered : List (List ℕ))
    → Fed expected limits room verdict left rest old half framer first gathered
    → Answers expected first gathered (Err stop) half new → IfSome left (EndsAs expected limits (Err stop) old new)
stopped_fed expected limits room verdict stop left rest old half new framer first gathered fed answers =
    output left rest fed.fed (EndsAs expected limits (Err stop) old new) fed.taken (λ more.
    let front = whole_first limits fed.fed more (rw fed.limit at fed.holds.within) (omega (arith, fed.count)) in
    ends_stopped expected limits (fed.fed ++ more) stop old new
    (subst (λ records. Answers expected 1 records (Err stop) old new) (sym front.joined)
    (answers_longer expected 1 (cut_of fed.fed).whole front.more stop old new
    (answers_both expected 1 first (cut_of fed.fed).whole gathered verdict (Err stop) old half new fed.came answers))))

-- nothing was fed since
pub still_fed : {N : Type 0} (expected : ExpectedOutput N) (limits : Limits) (room : ℕ) (verdict : StreamStatus N)
    (left rest old new : Option (List ℕ)) (framer : Framing) (first : ℕ) (batch : List (List ℕ))
    → Progress expected limits room verdict left rest old new framer first batch
    → Fed expected limits room verdict left rest old new framer first batch
still_fed expected limits room verdict left rest old new framer first batch before = record {
  fed = before.fed;
  taken = before.taken;
  holds = record {
    records = append-nil (cut_of before.fed).whole;
    open_bytes = before.holds.open_bytes;
    within = before.holds.within;
    fault = before.holds.fault;
  };
  count = before.count;
  limit = before.limit;
  came = before.came;
}

-- want of memory between two turns
pub out_of_memory : {N : Type 0} (expected : ExpectedOutput N) (limits : Limits) (room : ℕ) (verdict : StreamStatus N)
    (left rest old new : Option (List ℕ)) (framer : Framing) (first : ℕ) (batch : List (List ℕ))
    → Progress expected limits room verdict left rest old new framer first batch
    → IfSome left (EndsAs expected limits (Err stops.Memory) old new)
out_of_memory expected limits room verdict left rest old new framer first batch before =
    stopped_fed expected limits room verdict stops.Memory left rest old new new framer first batch
    (still_fed expected limits room verdict left rest old new framer first batch before)
    (no_memory expected first batch new)

-- a turn that failed
pub turn_failed : {N : Type 0} (expected : ExpectedOutput N) (limits : Limits) (room : ℕ) (verdict : StreamStatus N) (stop : StreamError)
    (left middle rest old new : Option (List ℕ)) (framer now : Framing) (first : ℕ) (batch : List (List ℕ))
    → Progress expected limits room verdict left middle old new framer first batch
    → Brings room (Err stop) middle rest framer now → IfSome left (EndsAs expected limits (Err stop) old new)
turn_failed expected limits room verdict stops.ReadFault left middle rest old new framer now first batch before brought =
    absurd brought
turn_failed expected limits room verdict stops.Memory left middle rest old new framer now first batch before brought =
    out_of_memory expected limits room verdict left middle old new framer first batch before
turn_failed expected limits room verdict stops.WriteFault left middle rest old new framer now first batch before brought =
    absurd brought
turn_failed expected limits room verdict stops.Limit left middle rest old new framer now first batch before brought =
    absurd brought

-- a read fault, after which the batch was answered
pub read_fault : {N : Type 0} (expected : ExpectedOutput N) (limits : Limits) (room : ℕ) (verdict more : StreamStatus N)
    (left middle rest old half new : Option (List ℕ)) (framer now : Framing) (first : ℕ) (batch : List (List ℕ))
    → Progress expected limits room verdict left middle old half framer first batch
    → StandsStill middle rest framer now → Answers expected first batch (Ok more) half new
    → AnswersTaken expected limits left rest old new
read_fault expected limits room verdict more left middle rest old half new framer now first batch before still answers =
    let all = answers_both expected 1 first (cut_of before.fed).whole batch verdict (Ok more) old half new before.came
    answers in
    record {
      taken = before.fed;
      consumed = subst (Consumes left rest) (append-nil before.fed)
          (consumes_both left middle rest before.fed [] before.taken still.source);
      unlimited = no_place limits before.fed (rw before.limit at before.holds.within) (omega (arith, before.count));
      written = all.written;
    }

-- the end of the source

tail_by : {N : Type 0} (expected : ExpectedOutput N) (limits : Limits) (fed : List ℕ) (k : Bool) → expected.keeps_blank_tail ≡ k
    → limit_place limits fed ≡ None → tail_due expected limits fed ≡ blank_of expected (cut_of fed).rest
tail_by expected limits fed true k unlimited = rw (unlimited, k) refl
tail_by expected limits fed false k unlimited = rw (unlimited, k) refl

-- the text that is due, by those that were answered and those that are gathered
due_is : {N : Type 0} (expected : ExpectedOutput N) (limits : Limits) (fed : List ℕ) (first : ℕ) (gathered : List (List ℕ))
    (verdict : StreamStatus N)
    (old half : Option (List ℕ)) → limit_place limits fed ≡ None → answered limits fed ≡ records_of fed
    → (came : Advances expected 1 (records_of fed) first gathered verdict old half)
    → due expected limits fed ≡ texts_of expected came.answered
    ++ (texts_from expected first gathered ++ blank_of expected (cut_of fed).rest)
due_is expected limits fed first gathered verdict old half unlimited all came =
    let blank = blank_of expected (cut_of fed).rest in
    ap (λ tail. texts_of expected (answered limits fed) ++ tail)
    (tail_by expected limits fed expected.keeps_blank_tail refl unlimited)
    ∙ ap (λ records. texts_of expected records ++ blank) (all ∙ sym came.parts)
    ∙ ap (λ text. text ++ blank) (texts_both expected 1 came.answered gathered
    ∙ ap (λ n. texts_of expected came.answered ++ texts_from expected n gathered) (sym came.next))
    ∙ append_assoc (texts_of expected came.answered) (texts_from expected first gathered) blank

tail_answered : {N : Type 0} (expected : ExpectedOutput N) (limits : Limits) (fed : List ℕ) (first : ℕ) (batch : List (List ℕ))
    (verdict : StreamStatus N)
    (result : Result (StreamStatus N) StreamError) (old half new : Option (List ℕ)) → limit_place limits fed ≡ None
    → answered limits fed ≡ records_of fed
    → Advances expected 1 (records_of fed) first (batch ++ last_of (cut_of fed).rest) verdict old half
    → AnswersTail expected first batch (cut_of fed).rest result half new
    → EndsAs expected limits (joined_result verdict result) old new fed
tail_answered expected limits fed first batch verdict (Ok last) old half new unlimited all came answers =
    let gathered = batch ++ last_of (cut_of fed).rest in
    record {
      holds = record {
        unlimited = unlimited;
        output = ap (verdict_of expected) (all ∙ sym came.parts) ∙ verdict_both expected 1 came.answered gathered
            ∙ ap (λ n. joined (verdict_of expected came.answered) (verdict_from expected n gathered)) (sym came.next)
            ∙ ap (λ v. joined v (verdict_from expected first gathered)) came.output ∙ ap (joined verdict) answers.holds;
      };
      written = subst (Appends old new)
          (sym (due_is expected limits fed first gathered verdict old half unlimited all came))
          (appends_both old half new (texts_of expected came.answered)
          (texts_from expected first gathered ++ blank_of expected (cut_of fed).rest) came.written answers.written);
    }
tail_answered expected limits fed first batch verdict (Err stops.WriteFault) old half new unlimited all came answers =
    let gathered = batch ++ last_of (cut_of fed).rest in
    subst (AppendsPrefix old new) (sym (due_is expected limits fed first gathered verdict old half unlimited all came))
    (prefix_behind old half new (texts_of expected came.answered)
    (texts_from expected first gathered ++ blank_of expected (cut_of fed).rest) came.written answers)
tail_answered expected limits fed first batch verdict (Err stops.Memory) old half new unlimited all came answers =
    subst (λ records. GrewFrom expected 1 records old new) (sym all)
    (answers_both expected 1 first (records_of fed) (batch ++ last_of (cut_of fed).rest) verdict (Err stops.Memory) old
    half new came answers)
tail_answered expected limits fed first batch verdict (Err stops.ReadFault) old half new unlimited all came answers =
    absurd answers
tail_answered expected limits fed first batch verdict (Err stops.Limit) old half new unlimited all came answers =
    absurd answers

pub ended : {N : Type 0} (expected : ExpectedOutput N) (limits : Limits) (room : ℕ) (verdict : StreamStatus N)
    (result : Result (StreamStatus N) StreamError)
    (left middle rest old half new : Option (List ℕ)) (framer now : Framing) (first : ℕ) (batch : List (List ℕ))
    → (before : Progress expected limits room verdict left middle old half framer first batch)
    → Ends middle rest framer now → AnswersTail expected first batch (cut_of before.fed).rest result half new
    → IfSome left (EndsAs expected limits (joined_result verdict result) old new)
ended expected limits room verdict result left middle rest old half new framer now first batch before ends answers =
    let fit = rw before.limit at before.holds.within in
    let few : length before.fed ≤ limits.input = omega (arith, before.count) in
    let taken : Consumes left rest before.fed =
    subst (Consumes left rest) (append-nil before.fed)
    (consumes_both left middle rest before.fed [] before.taken ends.still.source) in
    told_whole left rest before.fed (EndsAs expected limits (joined_result verdict result) old new) taken ends.end
    (tail_answered expected limits before.fed first batch verdict result old half new
    (no_place limits before.fed fit few) (all_answered limits before.fed fit few)
    (gathers expected 1 first (cut_of before.fed).whole batch (last_of (cut_of before.fed).rest) verdict old half
    before.came) answers)

-- a limit

-- a limit is passed by what was taken, whatever follows, and these records are answered
pub record IsOver (limits : Limits) (left rest : Option (List ℕ)) (records : List (List ℕ)) : Type 0 where
  pub taken : List ℕ
  pub consumed : Consumes left rest taken
  pub passed : (more : List ℕ) → IsPassed limits (taken ++ more) records
  pub few : length records ≤ limits.input

regroup : (fed bytes more rest : List ℕ) → (fed ++ bytes) ++ (more ++ rest) ≡ (fed ++ (bytes ++ more)) ++ rest
regroup fed bytes more rest = append_assoc fed bytes (more ++ rest)
    ∙ ap (λ xs. fed ++ xs) (sym (append_assoc bytes more rest)) ∙ sym (append_assoc fed (bytes ++ more) rest)

pub over : {N : Type 0} (expected : ExpectedOutput N) (limits : Limits) (room : ℕ) (verdict : StreamStatus N)
    (left middle rest old half : Option (List ℕ)) (framer now : Framing) (first : ℕ) (batch : List (List ℕ))
    → (before : Progress expected limits room verdict left middle old half framer first batch)
    → Overfeeds room middle rest framer now ⊎ Overflows room middle rest framer now → now.limit ≡ framer.limit
    → IsOver limits left rest ((cut_of before.fed).whole ++ now.waiting)
over expected limits room verdict left middle rest old half framer now first batch before (inl feeds) limit =
    let passed = feeds.fed (cut_of before.fed).whole before.fed before.holds in
    let all = before.fed ++ feeds.bytes in
    let same : now.limit ≡ limits.record = limit ∙ before.limit in
    let few : length all ≤ limits.input =
    rw (length-append before.fed feeds.bytes) (omega (arith, before.count, feeds.few)) in
    let records : take_while (fits limits.record) (cut_of all).whole ≡ (cut_of before.fed).whole ++ now.waiting =
    ap (λ most. take_while (fits most) (cut_of all).whole) (sym same) ∙ sym passed.records in
    record {
      taken = before.fed ++ (feeds.bytes ++ feeds.more);
      consumed = consumes_both left middle rest before.fed (feeds.bytes ++ feeds.more) before.taken feeds.taken;
      passed = λ more. subst (λ bytes. IsPassed limits bytes ((cut_of before.fed).whole ++ now.waiting))
          (regroup before.fed feeds.bytes feeds.more more)
          (subst (IsPassed limits (all ++ (feeds.more ++ more))) records
          (record_passed limits all (feeds.more ++ more) (rw same at passed.passed) few));
      few = subst (λ xs. length xs ≤ limits.input) records
          (omega (arith, fewer (fits limits.record) (cut_of all).whole, few_closed all, few));
    }
over expected limits room verdict left middle rest old half framer now first batch before (inr feeds) limit =
    let holds = feeds.fed (cut_of before.fed).whole before.fed before.holds in
    let all = before.fed ++ feeds.bytes in
    let full : length all ≡ limits.input =
    rw (length-append before.fed feeds.bytes) (omega (arith, before.count, feeds.full)) in
    record {
      taken = before.fed ++ (feeds.bytes ++ feeds.next ∷ []);
      consumed = consumes_both left middle rest before.fed (feeds.bytes ++ feeds.next ∷ []) before.taken feeds.taken;
      passed = λ more. subst (λ bytes. IsPassed limits bytes ((cut_of before.fed).whole ++ now.waiting))
          (regroup before.fed feeds.bytes (feeds.next ∷ []) more)
          (subst (IsPassed limits (all ++ (feeds.next ∷ more))) (sym holds.records)
          (input_passed limits all feeds.next more (rw (limit ∙ before.limit) at holds.within) full));
      few = subst (λ xs. length xs ≤ limits.input) (sym holds.records) (omega (arith, few_closed all, full));
    }

-- the records before a limit that were answered, and those that are gathered
pub record Met {N : Type 0} (expected : ExpectedOutput N) (limits : Limits) (verdict : StreamStatus N)
    (left rest old new : Option (List ℕ)) (first : ℕ) (gathered : List (List ℕ)) : Type 0 where
  pub records : List (List ℕ)
  pub over : IsOver limits left rest records
  pub came : Advances expected 1 records first gathered verdict old new

pub limit_met : {N : Type 0} (expected : ExpectedOutput N) (limits : Limits) (room : ℕ) (verdict : StreamStatus N)
    (left middle rest old half : Option (List ℕ)) (framer now : Framing) (first : ℕ) (batch : List (List ℕ))
    → Progress expected limits room verdict left middle old half framer first batch
    → Overfeeds room middle rest framer now ⊎ Overflows room middle rest framer now → now.limit ≡ framer.limit
    → Met expected limits verdict left rest old half first (batch ++ now.waiting)
limit_met expected limits room verdict left middle rest old half framer now first batch before brought limit = record {
  records = (cut_of before.fed).whole ++ now.waiting;
  over = over expected limits room verdict left middle rest old half framer now first batch before brought limit;
  came = gathers expected 1 first (cut_of before.fed).whole batch now.waiting verdict old half before.came;
}

pub room_met : {N : Type 0} (expected : ExpectedOutput N) (limits : Limits) (verdict : StreamStatus N)
    (left rest old new : Option (List ℕ)) (first : ℕ)
    (gathered : List (List ℕ)) → Met expected limits verdict left rest old new first gathered → limits.input < 2 ^ 63
    → first + length gathered ≤ 2 ^ 63
room_met expected limits verdict left rest old new first gathered met few =
    let next = same_next expected 1 first met.records gathered verdict old new met.came in
    omega (arith, next, met.over.few, few)

pub stopped_at_limit : {N : Type 0} (expected : ExpectedOutput N) (limits : Limits) (verdict : StreamStatus N) (stop : StreamError)
    (left rest old half new : Option (List ℕ)) (first : ℕ) (gathered : List (List ℕ))
    → Met expected limits verdict left rest old half first gathered
    → Answers expected first gathered (Err stop) half new → IfSome left (EndsAs expected limits (Err stop) old new)
stopped_at_limit expected limits verdict stop left rest old half new first gathered met answers =
    output left rest met.over.taken (EndsAs expected limits (Err stop) old new) met.over.consumed (λ more.
    ends_stopped expected limits (met.over.taken ++ more) stop old new
    (subst (λ records. Answers expected 1 records (Err stop) old new) (sym ((met.over.passed more).records))
    (answers_both expected 1 first met.records gathered verdict (Err stop) old half new met.came answers)))

due_limited : {N : Type 0} (expected : ExpectedOutput N) (limits : Limits) (bytes : List ℕ)
    → is_some (limit_place limits bytes) ≡ true → due expected limits bytes ≡ texts_of expected (answered limits bytes)
due_limited expected limits bytes limited = rw limited (append-nil (texts_of expected (answered limits bytes)))

pub limited : {N : Type 0} (expected : ExpectedOutput N) (limits : Limits) (verdict more : StreamStatus N)
    (left rest old half new : Option (List ℕ))
    (first : ℕ) (gathered : List (List ℕ)) → Met expected limits verdict left rest old half first gathered
    → Answers expected first gathered (Ok more) half new → IfSome left (EndsAs expected limits (Err stops.Limit) old new)
limited expected limits verdict more left rest old half new first gathered met answers =
    let all = answers_both expected 1 first met.records gathered verdict (Ok more) old half new met.came answers in
    output left rest met.over.taken (EndsAs expected limits (Err stops.Limit) old new) met.over.consumed (λ behind.
    let passed = met.over.passed behind in
    let here : is_some (limit_place limits (met.over.taken ++ behind)) ≡ true = ap is_some passed.passed in
    record {
      holds = here;
      written = subst (Appends old new) (sym (due_limited expected limits (met.over.taken ++ behind) here))
          (subst (λ records. Appends old new (texts_of expected records)) (sym passed.records) all.written);
    })
