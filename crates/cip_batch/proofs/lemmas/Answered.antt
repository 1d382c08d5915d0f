-- The records that a run answers, by what came so far.
use Rattle.std.proofs.Common.{◌≡◌, ◌≤◌, ◌<◌, ◌+◌, ◌-◌, ℕ, List, [], ◌∷◌, ◌++◌, length, true, false, Option, Some, None, refl, sym, ◌∙◌, ap, arith, append-nil, append_assoc, take, nat_lt}
use Rattle.std.specs.List.{take_while}
use Rattle.std.proofs.Math.Seq.{take-append-add, take-append_seam}
use Rattle.std.proofs.lemmas.List.{take-append-le}
use Rattle.std.proofs.lemmas.Grind.{common_steps}
use Rattle.cip_frame.specs.Records.{Cut, cut_of, records_of, last_of}
use Rattle.cip_frame.specs.Framing.{fits, all_fit, IsFrontOf}
use Rattle.cip_frame.specs.Following.{cut_behind}
use Rattle.cip_frame.proofs.lemmas.Cutting.{cuts_are, cuts_follow}
use Rattle.cip_batch.specs.declared.limits.Limits.{Limits}
use Rattle.cip_batch.specs.Limits.{limit_place, answered, answered_to}
use Rattle.cip_batch.proofs.lemmas.LimitPlaces.{place_from, place_is, fitting, stopping, later_place}

fits_so_far : (limits : Limits) (fed : List ℕ) → all_fit limits.record (cut_of fed) ≡ true
    → all_fit limits.record (cut_behind [] fed) ≡ true
fits_so_far limits fed fit = ap (all_fit limits.record) (cuts_are fed) ∙ fit

place_behind : (limits : Limits) (fed more : List ℕ) → all_fit limits.record (cut_of fed) ≡ true
    → length fed ≤ limits.input
    → limit_place limits (fed ++ more) ≡ place_from limits (length fed) (cut_of fed).rest more
place_behind limits fed more fit input =
    let room : 0 + length fed ≤ limits.input = omega arith in
    let count : 0 + length fed ≡ length fed = omega arith in
    place_is limits (fed ++ more) ∙ fitting limits 0 [] fed more room (fits_so_far limits fed fit)
    ∙ ap (λ came. place_from limits came (cut_behind [] fed).rest more) count
    ∙ ap (λ (cut : Cut). place_from limits (length fed) cut.rest more) (cuts_are fed)

-- a stream that fits passes no limit
pub no_place : (limits : Limits) (fed : List ℕ) → all_fit limits.record (cut_of fed) ≡ true
    → length fed ≤ limits.input → limit_place limits fed ≡ None
no_place limits fed fit input = ap (limit_place limits) (sym (append-nil fed)) ∙ place_behind limits fed [] fit input

whole_goes_on : (fed more : List ℕ) → IsFrontOf (cut_of fed).whole (cut_of (fed ++ more)).whole
whole_goes_on fed more = record {
  more = (cut_behind (cut_of fed).rest more).whole;
  joined = ap (λ (cut : Cut). cut.whole) (cuts_follow fed more);
}

front_taken : (fed more : List ℕ) (n : ℕ) → length fed < n
    → take (n - 1) (fed ++ more) ≡ fed ++ take (n - 1 - length fed) more
front_taken fed more n later =
    let count : n - 1 ≡ length fed + (n - 1 - length fed) = omega arith in
    ap (λ k. take k (fed ++ more)) count ∙ take-append-add fed more (n - 1 - length fed)

whole_first_to : (limits : Limits) (fed more : List ℕ) (place : Option ℕ)
    → ((n : ℕ) → place ≡ Some n → length fed < n) → IsFrontOf (cut_of fed).whole (answered_to (fed ++ more) place)
whole_first_to limits fed more None later =
    let front = whole_goes_on fed more in
    record {
      more = front.more ++ last_of (cut_of (fed ++ more)).rest;
      joined = ap (λ whole. whole ++ last_of (cut_of (fed ++ more)).rest) front.joined
          ∙ append_assoc (cut_of fed).whole front.more (last_of (cut_of (fed ++ more)).rest);
    }
whole_first_to limits fed more (Some n) later =
    let front = whole_goes_on fed (take (n - 1 - length fed) more) in
    record {
      more = front.more;
      joined = ap (λ bytes. (cut_of bytes).whole) (front_taken fed more n (later n refl)) ∙ front.joined;
    }

-- the records that are closed so far are the first that are answered
pub whole_first : (limits : Limits) (fed more : List ℕ) → all_fit limits.record (cut_of fed) ≡ true
    → length fed ≤ limits.input → IsFrontOf (cut_of fed).whole (answered limits (fed ++ more))
whole_first limits fed more fit input =
    whole_first_to limits fed more (limit_place limits (fed ++ more))
    (λ n h. later_place limits (length fed) (cut_of fed).rest more n
    (sym (place_behind limits fed more fit input) ∙ h))

-- a stream that fits is answered whole
pub all_answered : (limits : Limits) (fed : List ℕ) → all_fit limits.record (cut_of fed) ≡ true
    → length fed ≤ limits.input → answered limits fed ≡ records_of fed
all_answered limits fed fit input = ap (answered_to fed) (no_place limits fed fit input)

-- a limit is passed, and these records are answered
pub record IsPassed (limits : Limits) (bytes : List ℕ) (before : List (List ℕ)) : Type 0 where
  pub place : ℕ
  pub passed : limit_place limits bytes ≡ Some place
  pub records : answered limits bytes ≡ before

-- a byte follows as many as an input may have
pub input_passed : (limits : Limits) (fed : List ℕ) (b : ℕ) (bs : List ℕ) → all_fit limits.record (cut_of fed) ≡ true
    → length fed ≡ limits.input → IsPassed limits (fed ++ b ∷ bs) (cut_of fed).whole
input_passed limits fed b bs fit full =
    let over : nat_lt limits.input (length fed + 1) ≡ true = grind (arith, common_steps) in
    let here : limit_place limits (fed ++ b ∷ bs)
    ≡ Some (length fed + 1) = place_behind limits fed (b ∷ bs) fit (omega arith) ∙ rw over refl in
    let back : (length fed + 1) - 1 ≡ length fed = omega arith in
    record {
      place = length fed + 1;
      passed = here;
      records = ap (answered_to (fed ++ b ∷ bs)) here ∙ ap (λ n. (cut_of (take n (fed ++ b ∷ bs))).whole) back
          ∙ ap (λ bytes. (cut_of bytes).whole) (take-append_seam fed (b ∷ bs));
    }

-- a record, or the open one, is longer than a record may be
pub record_passed : (limits : Limits) (fed more : List ℕ) → all_fit limits.record (cut_of fed) ≡ false
    → length fed ≤ limits.input →
    IsPassed limits (fed ++ more) (take_while (fits limits.record) (cut_of fed).whole)
record_passed limits fed more long input =
    let stops = stopping limits 0 [] fed (omega arith) (omega arith)
    (ap (all_fit limits.record) (cuts_are fed) ∙ long) in
    let here : limit_place limits (fed ++ more)
    ≡ Some (0 + stops.bytes + 1) = place_is limits (fed ++ more) ∙ stops.place more in
    let back : (0 + stops.bytes + 1) - 1 ≡ stops.bytes = omega arith in
    record {
      place = 0 + stops.bytes + 1;
      passed = here;
      records = ap (answered_to (fed ++ more)) here ∙ ap (λ n. (cut_of (take n (fed ++ more))).whole) back
          ∙ ap (λ bytes. (cut_of bytes).whole) (take-append-le stops.bytes fed more (omega (arith, stops.few)))
          ∙ ap (λ (cut : Cut). cut.whole) (sym (cuts_are (take stops.bytes fed))) ∙ sym stops.records
          ∙ ap (λ (cut : Cut). take_while (fits limits.record) cut.whole) (cuts_are fed);
    }
