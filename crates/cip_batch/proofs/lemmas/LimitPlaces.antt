-- Where a stream passes a limit, byte by byte.
use Rattle.std.proofs.Common.{◌≡◌, ◌≤◌, ◌<◌, ◌+◌, ◌-◌, ℕ, suc, List, [], ◌∷◌, ◌++◌, length, Bool, true, false, Option, Some, None, refl, ap, arith, append_assoc, length-append, take, ◌||◌, ◌&&◌, nat_lt, if◌then◌else◌}
use Rattle.std.specs.List.{take_while, list_all}
use Rattle.std.proofs.Math.Seq.{take-append_seam}
use Rattle.std.proofs.lemmas.List.Sums.{take_while-cons}
use Rattle.std.proofs.lemmas.Grind.{common_steps}
use Rattle.std.proofs.lemmas.Bool.{and_parts}
use Rattle.std.proofs.lemmas.Bool.Decides.{nat_tests}
use Rattle.cip_frame.specs.Records.{Cut, cut_of}
use Rattle.cip_frame.specs.Framing.{fits, all_fit}
use Rattle.cip_frame.specs.Following.{closes, cut_behind}
use Rattle.cip_frame.proofs.lemmas.Cutting.{cut_closing, cut_open, cuts_follow}
use Rattle.cip_frame.proofs.lemmas.Limits.{over_line}
use Rattle.cip_batch.specs.declared.limits.Limits.{Limits}
use Rattle.cip_batch.specs.Limits.{passes, first_passing, limit_place}

is_within : (most n : ℕ) → n ≤ most → nat_lt most n ≡ false
is_within most n le = grind (arith, nat_tests)

is_more : (most n : ℕ) → nat_lt most n ≡ true → most < n
is_more most n k = grind (arith, nat_tests)

-- the next byte is one too many, where n came and these are of the open record
abbrev pub is_over : Limits → ℕ → List ℕ → Bool
is_over limits came begun = nat_lt limits.input (came + 1) || nat_lt limits.record (length begun + 1)

abbrev pub place_from : Limits → ℕ → List ℕ → List ℕ → Option ℕ
place_from limits came begun [] = None
place_from limits came begun (b ∷ bs) =
    if is_over limits came begun then Some (came + 1)
    else place_from limits (came + 1) (cut_behind begun (b ∷ [])).rest bs

-- the numbers that are tried are those of the bytes to come

IsFound : Limits → List ℕ → List ℕ → Type 0
IsFound limits front bs = first_passing limits (front ++ bs) (length front + 1) (length bs)
    ≡ place_from limits (length front) (cut_of front).rest bs

passes_is : (limits : Limits) (front bs : List ℕ)
    → passes limits (front ++ bs) (length front + 1) ≡ is_over limits (length front) (cut_of front).rest
passes_is limits front bs =
    let back : (length front + 1) - 1 ≡ length front = omega arith in
    rw (back, take-append_seam front bs) refl

found_by : (limits : Limits) (front : List ℕ) (b : ℕ) (bs : List ℕ) (k : Bool)
    → is_over limits (length front) (cut_of front).rest ≡ k
    → first_passing limits ((front ++ b ∷ []) ++ bs) (length (front ++ b ∷ []) + 1) (length bs)
    ≡ place_from limits (length (front ++ b ∷ [])) (cut_of (front ++ b ∷ [])).rest bs
    → first_passing limits (front ++ b ∷ bs) (length front + 1) (length (b ∷ bs))
    ≡ place_from limits (length front) (cut_of front).rest (b ∷ bs)
found_by limits front b bs true k later = rw (passes_is limits front (b ∷ bs), k) refl
found_by limits front b bs false k later =
    let one : length (front ++ b ∷ []) ≡ length front + 1 = length-append front (b ∷ []) in
    let rest : (cut_of (front ++ b ∷ [])).rest
    ≡ (cut_behind (cut_of front).rest (b ∷ [])).rest = ap (λ (cut : Cut). cut.rest) (cuts_follow front (b ∷ [])) in
    rw (passes_is limits front (b ∷ bs), k) (rw (append_assoc front (b ∷ []) bs, one, rest) at later)

found : (limits : Limits) (front bs : List ℕ)
    → first_passing limits (front ++ bs) (length front + 1) (length bs)
    ≡ place_from limits (length front) (cut_of front).rest bs
found limits front [] = refl
found limits front (b ∷ bs) = found_by limits front b bs (is_over limits (length front) (cut_of front).rest) refl
    (found limits (front ++ b ∷ []) bs)

pub place_is : (limits : Limits) (bytes : List ℕ) → limit_place limits bytes ≡ place_from limits 0 [] bytes
unfolding limit_place
place_is limits bytes = found limits [] bytes

-- a place is after what came

later_place_by : (limits : Limits) (came : ℕ) (begun : List ℕ) (b : ℕ) (bs : List ℕ) (n : ℕ) (k : Bool)
    → is_over limits came begun ≡ k
    → (place_from limits (came + 1) (cut_behind begun (b ∷ [])).rest bs ≡ Some n → came + 1 < n)
    → place_from limits came begun (b ∷ bs) ≡ Some n → came < n
later_place_by limits came begun b bs n true k later h =
    let e : Some (came + 1) ≡ Some n = rw k at h in
    let same : came + 1 ≡ n = cc in
    omega arith
later_place_by limits came begun b bs n false k later h =
    let more : came + 1 < n = later (rw k at h) in
    omega arith

pub later_place : (limits : Limits) (came : ℕ) (begun bs : List ℕ) (n : ℕ) → place_from limits came begun bs ≡ Some n
    → came < n
later_place limits came begun [] n h = absurd (cc)
later_place limits came begun (b ∷ bs) n h =
    later_place_by limits came begun b bs n (is_over limits came begun) refl
    (later_place limits (came + 1) (cut_behind begun (b ∷ [])).rest bs n) h

-- what fits passes no limit

record_fits : (limits : Limits) (begun : List ℕ) (b : ℕ) (bs : List ℕ) (k : Bool)
    → nat_lt limits.record (length begun + 1) ≡ k
    → all_fit limits.record (cut_behind begun (b ∷ bs)) ≡ true → nat_lt limits.record (length begun + 1) ≡ false
record_fits limits begun b bs true k h =
    let more = is_more limits.record (length begun + 1) k in
    let over = over_line limits.record begun (b ∷ []) bs refl more in
    absurd (grind (arith, over.over, h))
record_fits limits begun b bs false k h = k

not_over : (limits : Limits) (came : ℕ) (begun : List ℕ) (b : ℕ) (bs : List ℕ) → came + 1 ≤ limits.input
    → all_fit limits.record (cut_behind begun (b ∷ bs)) ≡ true → is_over limits came begun ≡ false
not_over limits came begun b bs input h =
    let small = is_within limits.input (came + 1) input in
    rw (small, record_fits limits begun b bs (nat_lt limits.record (length begun + 1)) refl h) refl

abbrev Follows : Limits → ℕ → List ℕ → List ℕ → List ℕ → Type 0
Follows limits came begun xs ys = place_from limits came begun (xs ++ ys)
    ≡ place_from limits (came + length xs) (cut_behind begun xs).rest ys

fitting_by : (limits : Limits) (came : ℕ) (begun : List ℕ) (b : ℕ) (xs ys : List ℕ) (k : Bool) → closes begun b ≡ k
    → is_over limits came begun ≡ false
    → all_fit limits.record (cut_behind begun (b ∷ xs)) ≡ true
    → (all_fit limits.record (cut_behind [] xs) ≡ true → Follows limits (came + 1) [] xs ys)
    → (all_fit limits.record (cut_behind (begun ++ b ∷ []) xs) ≡ true
    → Follows limits (came + 1) (begun ++ b ∷ []) xs ys)
    → Follows limits came begun (b ∷ xs) ys
fitting_by limits came begun b xs ys true k over h closed still =
    let fit = and_parts (fits limits.record (begun ++ b ∷ []) && list_all (fits limits.record) (cut_behind [] xs).whole)
    (fits limits.record (cut_behind [] xs).rest) (rw (cut_closing begun b xs k) at h) in
    let whole = and_parts (fits limits.record (begun ++ b ∷ []))
    (list_all (fits limits.record) (cut_behind [] xs).whole) fit.0 in
    let all : all_fit limits.record (cut_behind [] xs) ≡ true = rw (whole.1, fit.1) refl in
    let count : came + 1 + length xs ≡ came + length (b ∷ xs) = omega arith in
    rw (over, cut_closing begun b [] k, cut_closing begun b xs k) (rw count at (closed all))
fitting_by limits came begun b xs ys false k over h closed still =
    let count : came + 1 + length xs ≡ came + length (b ∷ xs) = omega arith in
    rw (over, cut_open begun b [] k, cut_open begun b xs k) (rw count at (still (rw (cut_open begun b xs k) at h)))

pub fitting : (limits : Limits) (came : ℕ) (begun xs ys : List ℕ) → came + length xs ≤ limits.input
    → all_fit limits.record (cut_behind begun xs) ≡ true
    → place_from limits came begun (xs ++ ys) ≡ place_from limits (came + length xs) (cut_behind begun xs).rest ys
fitting limits came begun [] ys input h = let none : came + 0 ≡ came = omega arith in rw none refl
fitting limits came begun (b ∷ xs) ys input h =
    fitting_by limits came begun b xs ys (closes begun b) refl (not_over limits came begun b xs (omega arith) h) h
    (fitting limits (came + 1) [] xs ys (omega arith)) (fitting limits (came + 1) (begun ++ b ∷ []) xs ys (omega arith))

-- what doesn't fit passes one, and the records before it are those of the bytes before it

pub record Stops (limits : Limits) (came : ℕ) (begun xs : List ℕ) : Type 0 where
  pub bytes : ℕ
  pub few : bytes < length xs
  pub place : (ys : List ℕ) → place_from limits came begun (xs ++ ys) ≡ Some (came + bytes + 1)
  pub records : take_while (fits limits.record) (cut_behind begun xs).whole ≡ (cut_behind begun (take bytes xs)).whole

record_over : (limits : Limits) (came : ℕ) (begun : List ℕ) (b : ℕ) (xs : List ℕ)
    → nat_lt limits.record (length begun + 1) ≡ true → Stops limits came begun (b ∷ xs)
record_over limits came begun b xs k =
    let more = is_more limits.record (length begun + 1) k in
    let over = over_line limits.record begun (b ∷ []) xs refl more in
    let now : is_over limits came begun ≡ true = grind (arith, k) in
    let count : came + 0 + 1 ≡ came + 1 = omega arith in
    record {
      bytes = 0;
      few = omega arith;
      place = λ ys. rw (now, count) refl;
      records = over.none;
    }

record_in : (limits : Limits) (came : ℕ) (begun : List ℕ) (b : ℕ) (xs : List ℕ) (k : Bool) → closes begun b ≡ k
    → came + 1 ≤ limits.input → nat_lt limits.record (length begun + 1) ≡ false
    → all_fit limits.record (cut_behind begun (b ∷ xs)) ≡ false
    → (all_fit limits.record (cut_behind [] xs) ≡ false → Stops limits (came + 1) [] xs)
    → (all_fit limits.record (cut_behind (begun ++ b ∷ []) xs) ≡ false → Stops limits (came + 1) (begun ++ b ∷ []) xs)
    → Stops limits came begun (b ∷ xs)
record_in limits came begun b xs true k input r h closed still =
    let fit : fits limits.record (begun ++ b ∷ [])
    ≡ true = rw (length-append begun (b ∷ [])) (grind (arith, common_steps)) in
    let stops = closed (rw (cut_closing begun b xs k, fit) at h) in
    let small = is_within limits.input (came + 1) input in
    let count : came + 1 + stops.bytes + 1 ≡ came + (stops.bytes + 1) + 1 = omega arith in
    let next : stops.bytes + 1 ≡ suc stops.bytes = omega arith in
    record {
      bytes = stops.bytes + 1;
      few = omega (arith, stops.few);
      place = λ ys. rw (small, r, cut_closing begun b [] k) (rw count at (stops.place ys));
      records = rw (
        next,
        cut_closing begun b xs k,
        cut_closing begun b (take stops.bytes xs) k,
        take_while-cons (fits limits.record) (begun ++ b ∷ []) (cut_behind [] xs).whole,
        fit,
      )
          (ap (λ rest. (begun ++ b ∷ []) ∷ rest) stops.records);
    }
record_in limits came begun b xs false k input r h closed still =
    let stops = still (rw (cut_open begun b xs k) at h) in
    let small = is_within limits.input (came + 1) input in
    let count : came + 1 + stops.bytes + 1 ≡ came + (stops.bytes + 1) + 1 = omega arith in
    let next : stops.bytes + 1 ≡ suc stops.bytes = omega arith in
    record {
      bytes = stops.bytes + 1;
      few = omega (arith, stops.few);
      place = λ ys. rw (small, r, cut_open begun b [] k) (rw count at (stops.place ys));
      records = rw (next, cut_open begun b xs k, cut_open begun b (take stops.bytes xs) k) stops.records;
    }

stopping_by : (limits : Limits) (came : ℕ) (begun : List ℕ) (b : ℕ) (xs : List ℕ) (k : Bool)
    → nat_lt limits.record (length begun + 1) ≡ k
    → came + 1 ≤ limits.input → all_fit limits.record (cut_behind begun (b ∷ xs)) ≡ false
    → (all_fit limits.record (cut_behind [] xs) ≡ false → Stops limits (came + 1) [] xs)
    → (length (begun ++ b ∷ []) ≤ limits.record → all_fit limits.record (cut_behind (begun ++ b ∷ []) xs) ≡ false
    → Stops limits (came + 1) (begun ++ b ∷ []) xs)
    → Stops limits came begun (b ∷ xs)
stopping_by limits came begun b xs true k input h closed still = record_over limits came begun b xs k
stopping_by limits came begun b xs false k input h closed still =
    let room : length (begun ++ b ∷ []) ≤ limits.record =
    rw (length-append begun (b ∷ [])) (grind (arith, common_steps)) in
    record_in limits came begun b xs (closes begun b) refl input k h closed (still room)

pub stopping : (limits : Limits) (came : ℕ) (begun xs : List ℕ) → length begun ≤ limits.record
    → came + length xs ≤ limits.input
    → all_fit limits.record (cut_behind begun xs) ≡ false → Stops limits came begun xs
stopping limits came begun [] room input h = absurd (grind (arith, common_steps, h))
stopping limits came begun (b ∷ xs) room input h =
    stopping_by limits came begun b xs (nat_lt limits.record (length begun + 1)) refl (omega arith) h
    (stopping limits (came + 1) [] xs (omega arith) (omega arith))
    (λ more. stopping limits (came + 1) (begun ++ b ∷ []) xs more (omega arith))
