-- Records that are gathered in batches and answered batch by batch.
use Rattle.std.proofs.Common.{◌≡◌, ◌≤◌, ◌<◌, ◌+◌, ◌-◌, ◌^◌, arith, ℕ, zero, suc, List, [], ◌∷◌, ◌++◌, length, map, take, drop, Option, Result, Ok, Err, refl, Bool, ◌||◌, true, false, Some, None, sym, ◌∙◌, ap, add-zero, append_assoc, append-nil, length-append, subst, get_or}
use Rattle.std.proofs.Math.Seq.{take-length}
use Rattle.std.proofs.lemmas.List.{length-map, length-take-le, map-append, take_more, take-append-drop}
use Rattle.std.specs.Result.{OnOk}
use Rattle.std.specs.Io.KnownBytes.{Appends}
use Rattle.cip_batch.specs.declared.error.StreamError.{StreamError}
use Rattle.cip_batch.specs.declared.status.StreamStatus.{StreamStatus}
use Rattle.cip_batch.specs.ExpectedOutput.{ExpectedOutput}
use Rattle.cip_batch.specs.Verdicts.{clear, first_note, joined, joined_result}
use Rattle.cip_batch.specs.Due.{verdict_from, texts_from}
use Rattle.cip_batch.specs.Endings.{GrewFrom}
use Rattle.cip_batch.specs.Batches.{Advances, Answers, AnswersFirst, Gathered, Output, output_of, told_from}
use Rattle.cip_io.specs.Growth.{AppendsPrefix, TakesFront}
use Rattle.cip_io.proofs.lemmas.Growth.{appends_none, appends_both, prefix_behind, prefix_longer}
use Rattle.cip_batch.proofs.lemmas.Growing.{told_both, verdict_both, texts_both, answers_longer, answers_behind}

told_long : {N : Type 0} (expected : ExpectedOutput N) (number : ℕ) (records : List (List ℕ))
    → length (told_from expected number records) ≡ length records
told_long expected number [] = refl
told_long expected number (bytes ∷ records) = ap suc (told_long expected (number + 1) records)

-- nothing was written yet

pub none_yet : {N : Type 0} (expected : ExpectedOutput N) (number : ℕ) (waiting : List (List ℕ)) (old : Option (List ℕ))
    → Advances expected number waiting number waiting clear old old
none_yet expected number waiting old = record {
  answered = [];
  parts = refl;
  next = sym (add-zero number);
  output = refl;
  written = appends_none old;
}

pub no_memory : {N : Type 0} (expected : ExpectedOutput N) (number : ℕ) (records : List (List ℕ)) (old : Option (List ℕ))
    → GrewFrom expected number records old old
no_memory expected number records old =
    record { before = []; front = record { more = records; joined = refl }; written = appends_none old }

-- a whole batch was answered, and none waits any more
all_answered : {N T : Type 0} (tells : T → ExpectedOutput N) (before now : Gathered T) (result : Result (StreamStatus N) StreamError)
    (old new : Option (List ℕ))
    → OnOk result (now ≡ record before { first = before.first + length before.records; records = [] })
    → Answers (tells before.processor) before.first before.records result old new
    → AnswersFirst (tells before.processor) before.first before.records now.first now.records result old new
all_answered {T = T} tells before now (Ok verdict) old new emptied answers = record {
  answered = before.records;
  parts = ap (λ (batch : Gathered T). before.records ++ batch.records) emptied ∙ append-nil before.records;
  next = ap (λ (batch : Gathered T). batch.first) emptied;
  output = answers.holds;
  written = answers.written;
}
all_answered tells before now (Err stop) old new emptied answers = answers

pub batch_answered : {N T : Type 0} (tells : T → ExpectedOutput N) (batch before now : Gathered T)
    (result : Result (StreamStatus N) StreamError) (old new : Option (List ℕ)) → before ≡ batch
    → OnOk result (now ≡ record before { first = before.first + length before.records; records = [] })
    → Answers (tells before.processor) before.first before.records result old new
    → AnswersFirst (tells batch.processor) batch.first batch.records now.first now.records result old new
batch_answered {T = T} tells batch before now result old new same emptied answers =
    subst (λ (b : Gathered T). AnswersFirst (tells b.processor) b.first b.records now.first now.records result old new)
    same (all_answered tells before now result old new emptied answers)

-- one more record came into a batch, whose jobs say what is due for them
pub told_pushed : {N : Type 0} {W : Type 0} (expected : ExpectedOutput N) (first : ℕ) (tells : W → Output N)
    (bytes_of : W → List ℕ) (jobs : List W) (job : W) → map tells jobs ≡ told_from expected first (map bytes_of jobs)
    → tells job ≡ output_of expected (first + length jobs) (bytes_of job)
    → map tells (jobs ++ job ∷ []) ≡ told_from expected first (map bytes_of (jobs ++ job ∷ []))
told_pushed expected first tells bytes_of jobs job all one =
    let place : first + length jobs ≡ first + length (map bytes_of jobs) =
    ap (λ n. first + n) (sym (length-map jobs bytes_of)) in
    map-append tells jobs (job ∷ [])
    ∙ ap (λ output. output ++ tells job ∷ []) all
    ∙ ap (λ output. told_from expected first (map bytes_of jobs) ++ output ∷ [])
    (one ∙ ap (λ n. output_of expected n (bytes_of job)) place)
    ∙ sym (told_both expected first (map bytes_of jobs) (bytes_of job ∷ []))
    ∙ ap (told_from expected first) (sym (map-append bytes_of jobs (job ∷ [])))

-- records came after those that are gathered
pub gathers : {N : Type 0} (expected : ExpectedOutput N) (number first : ℕ) (records waiting more : List (List ℕ))
    (verdict : StreamStatus N) (old new : Option (List ℕ)) → Advances expected number records first waiting verdict old new
    → Advances expected number (records ++ more) first (waiting ++ more) verdict old new
gathers expected number first records waiting more verdict old new came = record {
  answered = came.answered;
  parts = sym (append_assoc came.answered waiting more) ∙ ap (λ xs. xs ++ more) came.parts;
  next = came.next;
  output = came.output;
  written = came.written;
}

-- those that are gathered were answered
pub answers_both : {N : Type 0} (expected : ExpectedOutput N) (number first : ℕ) (records waiting : List (List ℕ))
    (verdict : StreamStatus N) (result : Result (StreamStatus N) StreamError) (old middle new : Option (List ℕ))
    → Advances expected number records first waiting verdict old middle
    → Answers expected first waiting result middle new
    → Answers expected number records (joined_result verdict result) old new
answers_both expected number first records waiting verdict result old middle new came answers =
    subst (λ xs. Answers expected number xs (joined_result verdict result) old new) came.parts
    (answers_behind expected number came.answered waiting verdict result old middle new came.output came.written
    (subst (λ n. Answers expected n waiting result middle new) came.next answers))

-- the first of those that are gathered were answered
pub advances_both : {N : Type 0} (expected : ExpectedOutput N) (number first next : ℕ) (records batch rest later : List (List ℕ))
    (verdict one : StreamStatus N) (old middle new : Option (List ℕ))
    → Advances expected number records first (batch ++ rest) verdict old middle
    → Advances expected first batch next later one middle new
    → Advances expected number records next (later ++ rest) (joined verdict one) old new
advances_both expected number first next records batch rest later verdict one old middle new before behind =
    let answers : Answers expected number (before.answered ++ behind.answered) (Ok (joined verdict one)) old new =
    answers_behind expected number before.answered behind.answered verdict (Ok one) old middle new before.output
    before.written (subst (λ n. Answers expected n behind.answered (Ok one) middle new) before.next
    (record { holds = behind.output; written = behind.written })) in
    record {
      answered = before.answered ++ behind.answered;
      parts = append_assoc before.answered behind.answered (later ++ rest)
          ∙ ap (λ xs. before.answered ++ xs) (sym (append_assoc behind.answered later rest)
          ∙ ap (λ xs. xs ++ rest) behind.parts)
          ∙ before.parts;
      next = rw (length-append before.answered behind.answered) (omega (arith, before.next, behind.next));
      output = answers.holds;
      written = answers.written;
    }

-- the first of those that are gathered stopped it
pub stopped_both : {N : Type 0} (expected : ExpectedOutput N) (number first : ℕ) (records batch rest : List (List ℕ))
    (verdict : StreamStatus N) (stop : StreamError) (old middle new : Option (List ℕ))
    → Advances expected number records first (batch ++ rest) verdict old middle
    → Answers expected first batch (Err stop) middle new → Answers expected number records (Err stop) old new
stopped_both expected number first records batch rest verdict stop old middle new before answers =
    answers_both expected number first records (batch ++ rest) verdict (Err stop) old middle new before
    (answers_longer expected first batch rest stop middle new answers)

-- the record that comes out of the framer goes after those of the batch
pub next_taken : {N : Type 0} (expected : ExpectedOutput N) (number first : ℕ) (records batch waiting rest : List (List ℕ))
    (bytes : List ℕ) (verdict : StreamStatus N) (old new : Option (List ℕ)) → waiting ≡ bytes ∷ rest
    → Advances expected number records first (batch ++ waiting) verdict old new
    → Advances expected number records first ((batch ++ bytes ∷ []) ++ rest) verdict old new
next_taken expected number first records batch waiting rest bytes verdict old new more came =
    subst (λ xs. Advances expected number records first xs verdict old new)
    (ap (λ xs. batch ++ xs) more ∙ sym (append_assoc batch (bytes ∷ []) rest)) came

-- none waits in the framer any more
pub all_taken : {N : Type 0} (expected : ExpectedOutput N) (number first : ℕ) (records batch waiting : List (List ℕ))
    (verdict : StreamStatus N) (old new : Option (List ℕ)) → waiting ≡ []
    → Advances expected number records first (batch ++ waiting) verdict old new
    → Advances expected number records first batch verdict old new
all_taken expected number first records batch waiting verdict old new none came =
    subst (λ xs. Advances expected number records first xs verdict old new)
    (ap (λ xs. batch ++ xs) none ∙ append-nil batch) came

-- a batch with one more record
pub one_more_room : (first : ℕ) (records : List (List ℕ)) (bytes : List ℕ) → first + length records < 2 ^ 64 - 1
    → first + length (records ++ bytes ∷ []) < 2 ^ 64
one_more_room first records bytes room = omega (arith, length-append records (bytes ∷ []), room)

pub fewer_wait : (waiting rest : List (List ℕ)) (bytes : List ℕ) → waiting ≡ bytes ∷ rest
    → length rest < length waiting
fewer_wait waiting rest bytes more = omega (arith, ap length more)

-- a record that waits has room in the batch
pub room_for_one : (first : ℕ) (records waiting rest : List (List ℕ)) (bytes : List ℕ) → waiting ≡ bytes ∷ rest
    → first + length (records ++ waiting) < 2 ^ 64 → first + length records < 2 ^ 64 - 1
room_for_one first records waiting rest bytes more room =
    omega (arith, ap length more, length-append records waiting, room)

pub short_by : (long limit most : ℕ) → long ≤ limit → limit ≡ most → most < 2 ^ 31 → long ≤ 2 ^ 31
short_by long limit most short same few = omega arith

-- the number of a record that comes next stays what it is
pub same_next : {N : Type 0} (expected : ExpectedOutput N) (number first : ℕ) (records waiting : List (List ℕ))
    (verdict : StreamStatus N) (old new : Option (List ℕ)) → Advances expected number records first waiting verdict old new
    → number + length records ≡ first + length waiting
same_next expected number first records waiting verdict old new came =
    let parts : length came.answered + length waiting ≡ length records =
    sym (length-append came.answered waiting) ∙ ap length came.parts in
    omega (arith, came.next, parts)

-- what was found for each record

told_at : {N : Type 0} (expected : ExpectedOutput N) (number : ℕ) (records : List (List ℕ)) (k : ℕ) (d : Output N)
    → k < length records
    → get_or (told_from expected number records) k d ≡ output_of expected (number + k) (get_or records k [])
told_at expected number [] k d within = absurd (omega (arith, within))
told_at expected number (bytes ∷ records) zero d within =
    ap (λ n. output_of expected n bytes) (sym (add-zero number))
told_at expected number (bytes ∷ records) (suc k) d within =
    let place : number + 1 + k ≡ number + suc k = omega arith in
    told_at expected (number + 1) records k d (omega (arith, within))
    ∙ ap (λ n. output_of expected n (get_or records k [])) place

-- what was found at a place is the output for the record there
pub told_here : {N : Type 0} (expected : ExpectedOutput N) (number : ℕ) (records : List (List ℕ)) (found : List (Output N))
    (k : ℕ) (d : Output N) → found ≡ told_from expected number records → k < length found
    → get_or found k d ≡ output_of expected (number + k) (get_or records k [])
told_here expected number records found k d all within =
    ap (λ xs. get_or xs k d) all
    ∙ told_at expected number records k d (subst (λ n. k < n) (ap length all ∙ told_long expected number records) within)

-- what the records up to one more add, and their texts

note_alone : {N : Type 0} (note : Option N) → first_note note None ≡ note
note_alone (Some n) = refl
note_alone None = refl

flag_alone : (flag : Bool) → flag || false ≡ flag
flag_alone true = refl
flag_alone false = refl

joined_clear : {N : Type 0} (verdict : StreamStatus N) → joined verdict clear ≡ verdict
joined_clear verdict = rw (flag_alone verdict.flagged, note_alone verdict.note) refl

verdict_more : {N : Type 0} (expected : ExpectedOutput N) (number : ℕ) (records : List (List ℕ)) (k : ℕ) → k < length records
    → verdict_from expected number (take (k + 1) records)
    ≡ joined (verdict_from expected number (take k records)) (expected.verdict (number + k) (get_or records k []))
verdict_more expected number records k within =
    let bytes = get_or records k [] in
    let long : length (take k records) ≡ k = length-take-le k records (omega (arith, within)) in
    ap (verdict_from expected number) (take_more records k [] within)
    ∙ verdict_both expected number (take k records) (bytes ∷ [])
    ∙ ap (joined (verdict_from expected number (take k records)))
    (joined_clear (expected.verdict (number + length (take k records)) bytes)
    ∙ ap (λ n. expected.verdict (number + n) bytes) long)

texts_more : {N : Type 0} (expected : ExpectedOutput N) (number : ℕ) (records : List (List ℕ)) (k : ℕ) → k < length records
    → texts_from expected number (take (k + 1) records)
    ≡ texts_from expected number (take k records) ++ expected.text (number + k) (get_or records k [])
texts_more expected number records k within =
    let bytes = get_or records k [] in
    let long : length (take k records) ≡ k = length-take-le k records (omega (arith, within)) in
    ap (texts_from expected number) (take_more records k [] within)
    ∙ texts_both expected number (take k records) (bytes ∷ [])
    ∙ ap (λ text. texts_from expected number (take k records) ++ text)
    (append-nil (expected.text (number + length (take k records)) bytes)
    ∙ ap (λ n. expected.text (number + n) bytes) long)

-- a front of the texts of the first records is one of all texts
front_of_all : {N : Type 0} (expected : ExpectedOutput N) (number : ℕ) (records : List (List ℕ)) (k : ℕ)
    (old new : Option (List ℕ)) → AppendsPrefix old new (texts_from expected number (take k records))
    → AppendsPrefix old new (texts_from expected number records)
front_of_all expected number records k old new prefix =
    let whole : texts_from expected number (take k records)
    ++ texts_from expected (number + length (take k records)) (drop k records) ≡ texts_from expected number records =
    sym (texts_both expected number (take k records) (drop k records))
    ∙ ap (texts_from expected number) (take-append-drop k records) in
    subst (AppendsPrefix old new) whole
    (prefix_longer old new (texts_from expected number (take k records))
    (texts_from expected (number + length (take k records)) (drop k records)) prefix)

-- the first n records were processed, and the sink took their texts except for what waits
pub record IsJoined {N : Type 0} (expected : ExpectedOutput N) (number : ℕ) (records : List (List ℕ)) (count : ℕ)
    (verdict : StreamStatus N) (waiting : List ℕ) (old new : Option (List ℕ)) : Type 0 where
  pub output : verdict_from expected number (take count records) ≡ verdict
  pub text : TakesFront old new (texts_from expected number (take count records)) waiting

pub none_joined : {N : Type 0} (expected : ExpectedOutput N) (number : ℕ) (records : List (List ℕ)) (old : Option (List ℕ))
    → IsJoined expected number records 0 clear [] old old
none_joined expected number records old = record {
  output = refl;
  text = record { front = []; parts = refl; written = appends_none old };
}

pub one_joined : {N : Type 0} (expected : ExpectedOutput N) (number : ℕ) (records : List (List ℕ)) (found : List (Output N))
    (k : ℕ) (one : Output N) (verdict : StreamStatus N) (waiting left : List ℕ) (old middle new : Option (List ℕ))
    → found ≡ told_from expected number records → k < length found
    → one ≡ output_of expected (number + k) (get_or records k [])
    → IsJoined expected number records k verdict waiting old middle → TakesFront middle new (waiting ++ one.text) left
    → IsJoined expected number records (k + 1) (joined verdict one.verdict) left old new
one_joined {N = N} expected number records found k one verdict waiting left old middle new all within here before takes =
    let place : k < length records = subst (λ n. k < n) (ap length all ∙ told_long expected number records) within in
    record {
      output = verdict_more expected number records k place
          ∙ ap (λ (t : Output N). joined (verdict_from expected number (take k records)) t.verdict) (sym here)
          ∙ ap (λ v. joined v one.verdict) before.output;
      text = record {
        front = before.text.front ++ takes.front;
        parts = append_assoc before.text.front takes.front left
            ∙ ap (λ text. before.text.front ++ text) takes.parts
            ∙ sym (append_assoc before.text.front waiting one.text)
            ∙ ap (λ text. text ++ one.text) before.text.parts
            ∙ ap (λ (t : Output N). texts_from expected number (take k records) ++ t.text) here
            ∙ sym (texts_more expected number records k place);
        written = appends_both old middle new before.text.front takes.front before.text.written takes.written;
      };
    }

-- the sink took a front of the next text, after what waited
pub stopped_at : {N : Type 0} (expected : ExpectedOutput N) (number : ℕ) (records : List (List ℕ)) (found : List (Output N))
    (k : ℕ) (one : Output N) (verdict : StreamStatus N) (waiting : List ℕ) (old middle new : Option (List ℕ))
    → found ≡ told_from expected number records → k < length found
    → one ≡ output_of expected (number + k) (get_or records k [])
    → IsJoined expected number records k verdict waiting old middle
    → AppendsPrefix middle new (waiting ++ one.text)
    → AppendsPrefix old new (texts_from expected number records)
stopped_at {N = N} expected number records found k one verdict waiting old middle new all within here before prefix =
    let place : k < length records = subst (λ n. k < n) (ap length all ∙ told_long expected number records) within in
    let so_far : before.text.front ++ (waiting ++ one.text) ≡ texts_from expected number (take (k + 1) records) =
    sym (append_assoc before.text.front waiting one.text)
    ∙ ap (λ text. text ++ one.text) before.text.parts
    ∙ ap (λ (t : Output N). texts_from expected number (take k records) ++ t.text) here
    ∙ sym (texts_more expected number records k place) in
    front_of_all expected number records (k + 1) old new
    (subst (AppendsPrefix old new) so_far
    (prefix_behind old middle new before.text.front (waiting ++ one.text) before.text.written prefix))

-- what waits after all of them is written, or a front of it

whole_found : {N : Type 0} (expected : ExpectedOutput N) (number : ℕ) (records : List (List ℕ)) (found : List (Output N))
    → found ≡ told_from expected number records → take (length found) records ≡ records
whole_found expected number records found all =
    ap (λ n. take n records) (ap length all ∙ told_long expected number records) ∙ take-length records

pub all_told : {N : Type 0} (expected : ExpectedOutput N) (number : ℕ) (records : List (List ℕ)) (found : List (Output N))
    (verdict : StreamStatus N) (waiting : List ℕ) (old new : Option (List ℕ)) → found ≡ told_from expected number records
    → IsJoined expected number records (length found) verdict waiting old new
    → verdict_from expected number records ≡ verdict
all_told expected number records found verdict waiting old new all before =
    subst (λ xs. verdict_from expected number xs ≡ verdict) (whole_found expected number records found all) before.output

all_parts : {N : Type 0} (expected : ExpectedOutput N) (number : ℕ) (records : List (List ℕ)) (found : List (Output N))
    (verdict : StreamStatus N) (waiting : List ℕ) (old new : Option (List ℕ)) → found ≡ told_from expected number records
    → (before : IsJoined expected number records (length found) verdict waiting old new)
    → before.text.front ++ waiting ≡ texts_from expected number records
all_parts expected number records found verdict waiting old new all before =
    before.text.parts ∙ ap (texts_from expected number) (whole_found expected number records found all)

pub all_written : {N : Type 0} (expected : ExpectedOutput N) (number : ℕ) (records : List (List ℕ)) (found : List (Output N))
    (verdict : StreamStatus N)
    (waiting : List ℕ) (old middle new : Option (List ℕ)) → found ≡ told_from expected number records
    → IsJoined expected number records (length found) verdict waiting old middle → Appends middle new waiting
    → Appends old new (texts_from expected number records)
all_written expected number records found verdict waiting old middle new all before written =
    subst (Appends old new) (all_parts expected number records found verdict waiting old middle all before)
    (appends_both old middle new before.text.front waiting before.text.written written)

pub stopped_behind : {N : Type 0} (expected : ExpectedOutput N) (number : ℕ) (records : List (List ℕ)) (found : List (Output N))
    (verdict : StreamStatus N) (waiting : List ℕ) (old middle new : Option (List ℕ))
    → found ≡ told_from expected number records
    → IsJoined expected number records (length found) verdict waiting old middle → AppendsPrefix middle new waiting
    → AppendsPrefix old new (texts_from expected number records)
stopped_behind expected number records found verdict waiting old middle new all before prefix =
    subst (AppendsPrefix old new) (all_parts expected number records found verdict waiting old middle all before)
    (prefix_behind old middle new before.text.front waiting before.text.written prefix)
