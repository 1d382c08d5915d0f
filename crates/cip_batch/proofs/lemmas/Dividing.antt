-- A stream that is divided after a closed record.
use Rattle.std.proofs.Common.{◌≡◌, ◌≤◌, ◌<◌, ◌+◌, ℕ, List, [], ◌∷◌, ◌++◌, length, Bool, true, false, Some, None, refl, sym, ◌∙◌, ap, arith, append_assoc, append-nil, not, if◌then◌else◌}
use Rattle.std.proofs.lemmas.Grind.{common_steps}
use Rattle.cip_text.specs.Lines.{lines_of}
use Rattle.cip_frame.specs.Records.{Cut, joined_to, is_closing, cut_lines, cut_of, records_of, last_of, is_blank_text, blank_tail}
use Rattle.cip_frame.specs.Following.{closes, cut_behind}
use Rattle.cip_frame.proofs.lemmas.Cutting.{cut_closing, cut_open, cuts_are, cuts_follow}
use Rattle.cip_batch.specs.declared.limits.Limits.{Limits}
use Rattle.cip_batch.specs.ExpectedOutput.{ExpectedOutput}
use Rattle.cip_batch.specs.Verdicts.{joined}
use Rattle.cip_batch.specs.Due.{verdict_from, verdict_of, texts_from, texts_of, due}
use Rattle.cip_batch.specs.Limits.{limit_place, answered, answered_to}
use Rattle.cip_batch.specs.Dividing.{are_closed, is_closed, IsUnnumbered, StreamsDivide}
use Rattle.cip_batch.proofs.lemmas.Growing.{verdict_both, texts_both}
use Rattle.cip_batch.proofs.lemmas.LimitPlaces.{is_over, place_from, place_is}

-- no limit is passed by the parts

not_over : (limits : Limits) (came : ℕ) (begun : List ℕ) (b : ℕ) (bs : List ℕ) (k : Bool)
    → is_over limits came begun ≡ k → place_from limits came begun (b ∷ bs) ≡ None → is_over limits came begun ≡ false
not_over limits came begun b bs true k h =
    let e : Some (came + 1) ≡ None = rw k at h in
    absurd (cc)
not_over limits came begun b bs false k h = k

none_behind : (limits : Limits) (came : ℕ) (begun : List ℕ) (b : ℕ) (bs : List ℕ) → is_over limits came begun ≡ false
    → place_from limits came begun (b ∷ bs) ≡ place_from limits (came + 1) (cut_behind begun (b ∷ [])).rest bs
none_behind limits came begun b bs k = rw k refl

none_front : (limits : Limits) (came : ℕ) (begun xs ys : List ℕ) → place_from limits came begun (xs ++ ys) ≡ None
    → place_from limits came begun xs ≡ None
none_front limits came begun [] ys h = refl
none_front limits came begun (b ∷ xs) ys h =
    let k = not_over limits came begun b (xs ++ ys) (is_over limits came begun) refl h in
    none_behind limits came begun b xs k
    ∙ none_front limits (came + 1) (cut_behind begun (b ∷ [])).rest xs ys
    (sym (none_behind limits came begun b (xs ++ ys) k) ∙ h)

rest_behind_by : (begun : List ℕ) (b : ℕ) (xs : List ℕ) (k : Bool) → closes begun b ≡ k
    → (cut_behind (cut_behind begun (b ∷ [])).rest xs).rest ≡ (cut_behind begun (b ∷ xs)).rest
rest_behind_by begun b xs true k = rw (cut_closing begun b [] k, cut_closing begun b xs k) refl
rest_behind_by begun b xs false k = rw (cut_open begun b [] k, cut_open begun b xs k) refl

rest_behind : (begun : List ℕ) (b : ℕ) (xs : List ℕ)
    → (cut_behind (cut_behind begun (b ∷ [])).rest xs).rest ≡ (cut_behind begun (b ∷ xs)).rest
rest_behind begun b xs = rest_behind_by begun b xs (closes begun b) refl

none_later : (limits : Limits) (came : ℕ) (begun xs ys : List ℕ) → place_from limits came begun (xs ++ ys) ≡ None
    → place_from limits (came + length xs) (cut_behind begun xs).rest ys ≡ None
none_later limits came begun [] ys h = let none : came + 0 ≡ came = omega arith in rw none h
none_later limits came begun (b ∷ xs) ys h =
    let k = not_over limits came begun b (xs ++ ys) (is_over limits came begun) refl h in
    let more = none_later limits (came + 1) (cut_behind begun (b ∷ [])).rest xs ys
    (sym (none_behind limits came begun b (xs ++ ys) k) ∙ h) in
    let count : came + 1 + length xs ≡ came + length (b ∷ xs) = omega arith in
    rw (count, rest_behind begun b xs) at more

less_over : (limits : Limits) (fewer came : ℕ) (begun : List ℕ) → fewer ≤ came → is_over limits came begun ≡ false
    → is_over limits fewer begun ≡ false
less_over limits fewer came begun le h = grind (arith, common_steps)

-- fewer bytes before pass no limit either
none_earlier : (limits : Limits) (fewer came : ℕ) (begun bs : List ℕ) → fewer ≤ came
    → place_from limits came begun bs ≡ None → place_from limits fewer begun bs ≡ None
none_earlier limits fewer came begun [] le h = refl
none_earlier limits fewer came begun (b ∷ bs) le h =
    let k = not_over limits came begun b bs (is_over limits came begun) refl h in
    none_behind limits fewer begun b bs (less_over limits fewer came begun le k)
    ∙ none_earlier limits (fewer + 1) (came + 1) (cut_behind begun (b ∷ [])).rest bs (omega (arith, le))
    (sym (none_behind limits came begun b bs k) ∙ h)

pub front_within : (limits : Limits) (front behind : List ℕ) → limit_place limits (front ++ behind) ≡ None
    → limit_place limits front ≡ None
front_within limits front behind h = place_is limits front
    ∙ none_front limits 0 [] front behind (sym (place_is limits (front ++ behind)) ∙ h)

-- a closed front

-- some record is closed, and nothing follows the last one
record Ends (cut : Cut) : Type 0 where
  some : 0 < length cut.whole
  none : cut.rest ≡ []

front_ends : (front : List ℕ) (whole : List (List ℕ)) (rest : List ℕ) → 0 < length whole → rest ≡ []
    → Ends (joined_to front whole rest)
front_ends front [] rest some none = absurd (omega arith)
front_ends front (part ∷ parts) rest some none = record { some = some; none = none }

line_ends : (line : List ℕ) (lines : List (List ℕ)) (k : Bool) → is_closing line ≡ k → Ends (cut_lines lines)
    → Ends (cut_lines (line ∷ lines))
line_ends line lines true k ends = rw k (record { some = omega arith; none = ends.none })
line_ends line lines false k ends =
    rw k (front_ends line (cut_lines lines).whole (cut_lines lines).rest ends.some ends.none)

last_ends : (line : List ℕ) (lines : List (List ℕ)) → are_closed (line ∷ lines) ≡ true → Ends (cut_lines (line ∷ lines))
last_ends line [] h = rw h (record { some = omega arith; none = refl })
last_ends line (next ∷ lines) h = line_ends line (next ∷ lines) (is_closing line) refl (last_ends next lines h)

none_ends : (lines : List (List ℕ)) → are_closed lines ≡ true → (cut_lines lines).rest ≡ []
none_ends [] h = refl
none_ends (line ∷ lines) h = (last_ends line lines h).none

closed_rest : (bytes : List ℕ) → is_closed bytes ≡ true → (cut_of bytes).rest ≡ []
closed_rest bytes h = none_ends (lines_of bytes) h

pub behind_within : (limits : Limits) (front behind : List ℕ) → is_closed front ≡ true
    → limit_place limits (front ++ behind) ≡ None → limit_place limits behind ≡ None
behind_within limits front behind closed h =
    let rest : (cut_behind [] front).rest ≡ [] = ap (λ (cut : Cut). cut.rest) (cuts_are front)
    ∙ closed_rest front closed in
    let later = none_later limits 0 [] front behind (sym (place_is limits (front ++ behind)) ∙ h) in
    place_is limits behind
    ∙ none_earlier limits 0 (0 + length front) [] behind (omega arith) (rw rest at later)

-- the records of a front that is closed, and then those after it

rest_goes_on : (front behind : List ℕ) → is_closed front ≡ true
    → (cut_of (front ++ behind)).rest ≡ (cut_of behind).rest
rest_goes_on front behind closed = ap (λ (cut : Cut). cut.rest) (cuts_follow front behind)
    ∙ ap (λ rest. (cut_behind rest behind).rest) (closed_rest front closed)
    ∙ ap (λ (cut : Cut). cut.rest) (cuts_are behind)

whole_goes_on : (front behind : List ℕ) → is_closed front ≡ true
    → (cut_of (front ++ behind)).whole ≡ (cut_of front).whole ++ (cut_of behind).whole
whole_goes_on front behind closed = ap (λ (cut : Cut). cut.whole) (cuts_follow front behind)
    ∙ ap (λ rest. (cut_of front).whole ++ (cut_behind rest behind).whole) (closed_rest front closed)
    ∙ ap (λ (cut : Cut). (cut_of front).whole ++ cut.whole) (cuts_are behind)

closed_records : (front : List ℕ) → is_closed front ≡ true → records_of front ≡ (cut_of front).whole
closed_records front closed = ap (λ rest. (cut_of front).whole ++ last_of rest) (closed_rest front closed)
    ∙ append-nil (cut_of front).whole

pub records_divide : (front behind : List ℕ) → is_closed front ≡ true
    → records_of (front ++ behind) ≡ records_of front ++ records_of behind
records_divide front behind closed =
    ap (λ whole. whole ++ last_of (cut_of (front ++ behind)).rest) (whole_goes_on front behind closed)
    ∙ ap (λ rest. ((cut_of front).whole ++ (cut_of behind).whole) ++ last_of rest) (rest_goes_on front behind closed)
    ∙ append_assoc (cut_of front).whole (cut_of behind).whole (last_of (cut_of behind).rest)
    ∙ ap (λ whole. whole ++ records_of behind) (sym (closed_records front closed))

closed_tail : (front : List ℕ) → is_closed front ≡ true → blank_tail front ≡ []
closed_tail front closed = ap (λ rest. if is_blank_text rest then rest else []) (closed_rest front closed)

tail_divides : (front behind : List ℕ) → is_closed front ≡ true → blank_tail (front ++ behind) ≡ blank_tail behind
tail_divides front behind closed =
    ap (λ rest. if is_blank_text rest then rest else []) (rest_goes_on front behind closed)

-- within the limits

abbrev pub tail_by : Bool → List ℕ → List ℕ
tail_by keeps bytes = if not keeps then [] else blank_tail bytes

pub due_within : {N : Type 0} (expected : ExpectedOutput N) (limits : Limits) (bytes : List ℕ) → limit_place limits bytes ≡ None
    → due expected limits bytes ≡ texts_of expected (records_of bytes) ++ tail_by expected.keeps_blank_tail bytes
due_within expected limits bytes within = rw within refl

pub answered_within : (limits : Limits) (bytes : List ℕ) → limit_place limits bytes ≡ None
    → answered limits bytes ≡ records_of bytes
answered_within limits bytes within = ap (answered_to bytes) within

closed_kept : (keeps : Bool) (front : List ℕ) → is_closed front ≡ true → tail_by keeps front ≡ []
closed_kept true front closed = closed_tail front closed
closed_kept false front closed = refl

kept_divides : (keeps : Bool) (front behind : List ℕ) → is_closed front ≡ true
    → tail_by keeps (front ++ behind) ≡ tail_by keeps behind
kept_divides true front behind closed = tail_divides front behind closed
kept_divides false front behind closed = refl

-- the texts of records don't depend on the number of the first
texts_alike : {N : Type 0} (expected : ExpectedOutput N) → IsUnnumbered expected → (one other : ℕ) (records : List (List ℕ))
    → texts_from expected one records ≡ texts_from expected other records
texts_alike expected alike one other [] = refl
texts_alike expected alike one other (bytes ∷ records) =
    ap (λ text. text ++ texts_from expected (one + 1) records) (alike.texts one other bytes)
    ∙ ap (λ texts. expected.text other bytes ++ texts) (texts_alike expected alike (one + 1) (other + 1) records)

verdicts_alike : {N : Type 0} (expected : ExpectedOutput N) → IsUnnumbered expected → (one other : ℕ) (records : List (List ℕ))
    → verdict_from expected one records ≡ verdict_from expected other records
verdicts_alike expected alike one other [] = refl
verdicts_alike expected alike one other (bytes ∷ records) =
    ap (λ first. joined first (verdict_from expected (one + 1) records)) (alike.verdicts one other bytes)
    ∙ ap (joined (expected.verdict other bytes)) (verdicts_alike expected alike (one + 1) (other + 1) records)

texts_divide : {N : Type 0} (expected : ExpectedOutput N) → IsUnnumbered expected → (xs ys : List (List ℕ))
    → texts_of expected (xs ++ ys) ≡ texts_of expected xs ++ texts_of expected ys
texts_divide expected alike xs ys = texts_both expected 1 xs ys
    ∙ ap (λ texts. texts_of expected xs ++ texts) (texts_alike expected alike (1 + length xs) 1 ys)

due_divides : {N : Type 0} (expected : ExpectedOutput N) (limits : Limits) (front behind : List ℕ) → IsUnnumbered expected
    → is_closed front ≡ true → limit_place limits (front ++ behind) ≡ None
    → due expected limits (front ++ behind) ≡ due expected limits front ++ due expected limits behind
due_divides expected limits front behind alike closed within =
    let first : due expected limits front ≡ texts_of expected (records_of front) =
    due_within expected limits front (front_within limits front behind within)
    ∙ ap (λ tail. texts_of expected (records_of front) ++ tail) (closed_kept expected.keeps_blank_tail front closed)
    ∙ append-nil (texts_of expected (records_of front)) in
    due_within expected limits (front ++ behind) within
    ∙ ap (λ tail. texts_of expected (records_of (front ++ behind)) ++ tail)
    (kept_divides expected.keeps_blank_tail front behind closed)
    ∙ ap (λ records. texts_of expected records ++ tail_by expected.keeps_blank_tail behind)
    (records_divide front behind closed)
    ∙ ap (λ texts. texts ++ tail_by expected.keeps_blank_tail behind)
    (texts_divide expected alike (records_of front) (records_of behind))
    ∙ append_assoc (texts_of expected (records_of front)) (texts_of expected (records_of behind))
    (tail_by expected.keeps_blank_tail behind)
    ∙ ap (λ text. text ++ (texts_of expected (records_of behind) ++ tail_by expected.keeps_blank_tail behind)) (sym first)
    ∙ ap (λ text. due expected limits front ++ text)
    (sym (due_within expected limits behind (behind_within limits front behind closed within)))

verdict_divides : {N : Type 0} (expected : ExpectedOutput N) (limits : Limits) (front behind : List ℕ)
    → IsUnnumbered expected → is_closed front ≡ true → limit_place limits (front ++ behind) ≡ None
    → verdict_of expected (answered limits (front ++ behind))
    ≡ joined (verdict_of expected (answered limits front)) (verdict_of expected (answered limits behind))
verdict_divides expected limits front behind alike closed within =
    rw (
      answered_within limits (front ++ behind) within,
      answered_within limits front (front_within limits front behind within),
      answered_within limits behind (behind_within limits front behind closed within),
      records_divide front behind closed,
    )
    (verdict_both expected 1 (records_of front) (records_of behind)
    ∙ ap (joined (verdict_of expected (records_of front)))
    (verdicts_alike expected alike (1 + length (records_of front)) 1 (records_of behind)))

pub streams_divide : {N : Type 0} → StreamsDivide N
streams_divide expected limits front behind alike closed within = record {
  front_within = front_within limits front behind within;
  behind_within = behind_within limits front behind closed within;
  text = due_divides expected limits front behind alike closed within;
  verdict = verdict_divides expected limits front behind alike closed within;
}
