-- What follows the last closed record, answered with the last batch.
use Rattle.std.proofs.Common.{◌≡◌, ◌≤◌, ◌<◌, ◌-◌, ◌==◌, ◌^◌, ◌++◌, ℕ, List, [], ◌∷◌, Bool, true, false, not, length, if◌then◌else◌, Option, Result, Ok, Err, refl, sym, ap, ◌∙◌, arith, append-nil, subst}
use Rattle.std.specs.Io.KnownBytes.{Appends}
use Rattle.cip_io.specs.Growth.{AppendsPrefix}
use Rattle.cip_frame.specs.declared.record.Record.{Record}
use Rattle.cip_frame.specs.declared.record.Tail.{Tail}
use Rattle.cip_frame.specs.declared.record.Tail.TheVariants.{Nothing, Blank, Last}
use Rattle.cip_frame.specs.Records.{is_blank_text, last_of, tail_of}
use Rattle.cip_frame.specs.Framing.{is_within}
use Rattle.cip_batch.specs.declared.error.StreamError.{StreamError}
use Rattle.cip_batch.specs.declared.error.StreamError.TheVariants as stops
use Rattle.cip_batch.specs.declared.status.StreamStatus.{StreamStatus}
use Rattle.cip_batch.specs.ExpectedOutput.{ExpectedOutput}
use Rattle.cip_batch.specs.Due.{verdict_from, texts_from}
use Rattle.cip_batch.specs.Batches.{Answers, AnswersTail, blank_of}
use Rattle.cip_io.proofs.lemmas.Growth.{appends_both, prefix_behind, prefix_longer}

-- what a tail holds

abbrev bytes_of : Tail → List ℕ
bytes_of Nothing = []
bytes_of (Blank bytes) = bytes
bytes_of (Last last) = last.bytes

abbrev is_last : Tail → Bool
is_last Nothing = false
is_last (Blank bytes) = false
is_last (Last last) = true

some_bytes : (b : ℕ) (bs : List ℕ) → (length (b ∷ bs) == 0) ≡ false
some_bytes b bs = grind arith

bytes_by : (b : ℕ) (bs : List ℕ) (k : Bool) → is_blank_text (b ∷ bs) ≡ k → bytes_of (tail_of (b ∷ bs)) ≡ b ∷ bs
bytes_by b bs true e = rw (some_bytes b bs, e) refl
bytes_by b bs false e = rw (some_bytes b bs, e) refl

bytes_are : (rest : List ℕ) → bytes_of (tail_of rest) ≡ rest
bytes_are [] = refl
bytes_are (b ∷ bs) = bytes_by b bs (is_blank_text (b ∷ bs)) refl

last_by : (b : ℕ) (bs : List ℕ) (k : Bool) → is_blank_text (b ∷ bs) ≡ k
    → is_last (tail_of (b ∷ bs)) ≡ not (is_blank_text (b ∷ bs))
last_by b bs true e = rw (some_bytes b bs, e) refl
last_by b bs false e = rw (some_bytes b bs, e) refl

last_is : (rest : List ℕ) → is_last (tail_of rest) ≡ not (is_blank_text rest)
last_is [] = refl
last_is (b ∷ bs) = last_by b bs (is_blank_text (b ∷ bs)) refl

not_blank : (k : Bool) → true ≡ not k → k ≡ false
not_blank true e = e
not_blank false e = refl

all_blank : (k : Bool) → false ≡ not k → k ≡ true
all_blank true e = refl
all_blank false e = e

-- what fits into the limit of a run fits into that of a record
pub below : (limit : ℕ) (tail : Tail) → limit < 2 ^ 31 → is_within limit tail ≡ true → is_within (2 ^ 31) tail ≡ true
below limit Nothing small within = refl
below limit (Blank bytes) small within = grind (arith, small, within)
below limit (Last last) small within = grind (arith, small, within)

pub short_last : (last : Record) → is_within (2 ^ 31) (Last last) ≡ true → length last.bytes ≤ 2 ^ 31
short_last last within = grind (arith, within)

pub less_room : (next : ℕ) → next < 2 ^ 64 - 1 → next < 2 ^ 64
less_room next room = omega arith

-- a last record

no_blank_by : {N : Type 0} (expected : ExpectedOutput N) (rest : List ℕ) (k : Bool) → expected.keeps_blank_tail ≡ k
    → is_blank_text rest ≡ false → blank_of expected rest ≡ []
no_blank_by expected rest true k none = rw (k, none) refl
no_blank_by expected rest false k none = rw k refl

stopped_so : {N : Type 0} (expected : ExpectedOutput N) (number : ℕ) (records : List (List ℕ)) (rest : List ℕ) (stop : StreamError)
    (old new : Option (List ℕ)) → Answers expected number (records ++ last_of rest) (Err stop) old new
    → AnswersTail expected number records rest (Err stop) old new
stopped_so expected number records rest stops.WriteFault old new answers =
    prefix_longer old new (texts_from expected number (records ++ last_of rest)) (blank_of expected rest) answers
stopped_so expected number records rest stops.Memory old new answers = answers
stopped_so expected number records rest stops.ReadFault old new answers = absurd answers
stopped_so expected number records rest stops.Limit old new answers = absurd answers

answered_so : {N : Type 0} (expected : ExpectedOutput N) (number : ℕ) (records : List (List ℕ)) (rest : List ℕ)
    (result : Result (StreamStatus N) StreamError)
    (old new : Option (List ℕ)) → Answers expected number (records ++ last_of rest) result old new
    → blank_of expected rest ≡ [] → AnswersTail expected number records rest result old new
answered_so expected number records rest (Ok verdict) old new grew none = record {
  holds = grew.holds;
  written = subst (Appends old new) (sym (ap (λ blank. texts_from expected number (records ++ last_of rest) ++ blank) none
      ∙ append-nil (texts_from expected number (records ++ last_of rest)))) grew.written;
}
answered_so expected number records rest (Err stop) old new answers none =
    stopped_so expected number records rest stop old new answers

pub last_answered : {N : Type 0} (expected : ExpectedOutput N) (number : ℕ) (records : List (List ℕ)) (rest : List ℕ)
    (last : Record) (result : Result (StreamStatus N) StreamError) (old new : Option (List ℕ)) → Last last ≡ tail_of rest
    → Answers expected number (records ++ last.bytes ∷ []) result old new
    → AnswersTail expected number records rest result old new
last_answered expected number records rest last result old new is answers =
    let some : is_blank_text rest ≡ false = not_blank (is_blank_text rest) (ap is_last is ∙ last_is rest) in
    let same : last.bytes ≡ rest = ap bytes_of is ∙ bytes_are rest in
    let all : records ++ last.bytes ∷ [] ≡ records ++ last_of rest =
    rw some (ap (λ bytes. records ++ bytes ∷ []) same) in
    answered_so expected number records rest result old new
    (subst (λ xs. Answers expected number xs result old new) all answers)
    (no_blank_by expected rest expected.keeps_blank_tail refl some)

-- nothing

no_blank : {N : Type 0} (expected : ExpectedOutput N) (k : Bool) → expected.keeps_blank_tail ≡ k → blank_of expected [] ≡ []
no_blank expected true k = rw k refl
no_blank expected false k = rw k refl

pub none_behind : {N : Type 0} (expected : ExpectedOutput N) (number : ℕ) (records : List (List ℕ)) (rest : List ℕ)
    (result : Result (StreamStatus N) StreamError) (old new : Option (List ℕ)) → Nothing ≡ tail_of rest
    → Answers expected number records result old new → AnswersTail expected number records rest result old new
none_behind expected number records rest result old new is answers =
    subst (λ bytes. AnswersTail expected number records bytes result old new) (ap bytes_of is ∙ bytes_are rest)
    (answered_so expected number records [] result old new
    (subst (λ xs. Answers expected number xs result old new) (sym (append-nil records)) answers)
    (no_blank expected expected.keeps_blank_tail refl))

-- blank lines

blank_lines : (rest bytes : List ℕ) → Blank bytes ≡ tail_of rest → is_blank_text rest ≡ true
blank_lines rest bytes is = all_blank (is_blank_text rest) (ap is_last is ∙ last_is rest)

no_last : (records : List (List ℕ)) (rest bytes : List ℕ) → Blank bytes ≡ tail_of rest
    → records ≡ records ++ last_of rest
no_last records rest bytes is = rw (blank_lines rest bytes is) (sym (append-nil records))

kept_lines : {N : Type 0} (expected : ExpectedOutput N) (rest bytes : List ℕ) → Blank bytes ≡ tail_of rest
    → (if expected.keeps_blank_tail then bytes else []) ≡ blank_of expected rest
kept_lines expected rest bytes is = rw (blank_lines rest bytes is)
    (ap (λ xs. if expected.keeps_blank_tail then xs else []) (ap bytes_of is ∙ bytes_are rest))

pub blank_stopped : {N : Type 0} (expected : ExpectedOutput N) (number : ℕ) (records : List (List ℕ)) (rest bytes : List ℕ)
    (stop : StreamError)
    (old new : Option (List ℕ)) → Blank bytes ≡ tail_of rest → Answers expected number records (Err stop) old new
    → AnswersTail expected number records rest (Err stop) old new
blank_stopped expected number records rest bytes stop old new is answers =
    stopped_so expected number records rest stop old new
    (subst (λ xs. Answers expected number xs (Err stop) old new) (no_last records rest bytes is) answers)

pub blank_refused : {N : Type 0} (expected : ExpectedOutput N) (number : ℕ) (records : List (List ℕ)) (rest bytes : List ℕ)
    (verdict : StreamStatus N) (stop : StreamError) (old half new : Option (List ℕ)) → Blank bytes ≡ tail_of rest
    → Answers expected number records (Ok verdict) old half → stop ≡ stops.WriteFault
    → AppendsPrefix half new (if expected.keeps_blank_tail then bytes else [])
    → AnswersTail expected number records rest (Err stop) old new
blank_refused expected number records rest bytes verdict stop old half new is grew fault front =
    let text = texts_from expected number (records ++ last_of rest) in
    let written : Appends old half text =
    subst (λ xs. Appends old half (texts_from expected number xs)) (no_last records rest bytes is) grew.written in
    subst (λ s. AnswersTail expected number records rest (Err s) old new) (sym fault)
    (prefix_behind old half new text (blank_of expected rest) written
    (subst (AppendsPrefix half new) (kept_lines expected rest bytes is) front))

pub blank_written : {N : Type 0} (expected : ExpectedOutput N) (number : ℕ) (records : List (List ℕ)) (rest bytes : List ℕ)
    (verdict : StreamStatus N) (old half new : Option (List ℕ)) → Blank bytes ≡ tail_of rest
    → Answers expected number records (Ok verdict) old half
    → Appends half new (if expected.keeps_blank_tail then bytes else [])
    → AnswersTail expected number records rest (Ok verdict) old new
blank_written expected number records rest bytes verdict old half new is grew blank =
    let same = no_last records rest bytes is in
    let text = texts_from expected number (records ++ last_of rest) in
    record {
      holds = subst (λ xs. verdict_from expected number xs ≡ verdict) same grew.holds;
      written = appends_both old half new text (blank_of expected rest)
          (subst (λ xs. Appends old half (texts_from expected number xs)) same grew.written)
          (subst (Appends half new) (kept_lines expected rest bytes is) blank);
    }

-- answering has no read fault

abbrev failed : {N : Type 0} → StreamError → Result (StreamStatus N) StreamError
failed stop = Err stop

pub no_read_fault : {N : Type 0} (expected : ExpectedOutput N) (number : ℕ) (records : List (List ℕ)) (rest : List ℕ)
    (stop : StreamError) (old new : Option (List ℕ)) → AnswersTail expected number records rest (Err stop) old new
    → failed {N = N} stop ≡ failed {N = N} stops.ReadFault → ⊥
no_read_fault expected number records rest stops.ReadFault old new answers is = answers
no_read_fault expected number records rest stops.Memory old new answers is = absurd (cc)
no_read_fault expected number records rest stops.WriteFault old new answers is = absurd (cc)
no_read_fault expected number records rest stops.Limit old new answers is = absurd answers

pub never_read_fault : {N : Type 0} (expected : ExpectedOutput N) (number : ℕ) (records : List (List ℕ)) (stop : StreamError)
    (old new : Option (List ℕ)) → Answers expected number records (Err stop) old new
    → failed {N = N} stop ≡ failed {N = N} stops.ReadFault → ⊥
never_read_fault expected number records stops.ReadFault old new answers is = answers
never_read_fault expected number records stops.Memory old new answers is = absurd (cc)
never_read_fault expected number records stops.WriteFault old new answers is = absurd (cc)
never_read_fault expected number records stops.Limit old new answers is = absurd answers
