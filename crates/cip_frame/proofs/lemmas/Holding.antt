-- What a framer holds of all that it was fed.
use Rattle.std.proofs.Common.{◌≡◌, ◌≤◌, ℕ, List, ◌++◌, length, true, refl, sym, ◌∙◌, ap, arith, append_assoc}
use Rattle.std.specs.List.{take_while, list_all}
use Rattle.std.proofs.lemmas.List.Folds.{list_all-append}
use Rattle.std.proofs.lemmas.Grind.{common_steps}
use Rattle.cip_frame.specs.Records.{Cut, cut_of}
use Rattle.cip_frame.specs.Framing.{Framing, Holds, Passed, IsFrontOf, fits, all_fit}
use Rattle.cip_frame.specs.Following.{cut_behind}
use Rattle.cip_frame.specs.Taking.{TakesPiece, IsTooLong}
use Rattle.cip_frame.proofs.lemmas.Cutting.{cuts_follow}
use Rattle.std.proofs.lemmas.Bool.{and_parts}
use Rattle.cip_frame.proofs.lemmas.Limits.{take_fitting}

whole_follows : (xs ys : List ℕ) → (cut_of (xs ++ ys)).whole
    ≡ (cut_of xs).whole ++ (cut_behind (cut_of xs).rest ys).whole
whole_follows xs ys = ap (λ (cut : Cut). cut.whole) (cuts_follow xs ys)

rest_follows : (xs ys : List ℕ) → (cut_of (xs ++ ys)).rest ≡ (cut_behind (cut_of xs).rest ys).rest
rest_follows xs ys = ap (λ (cut : Cut). cut.rest) (cuts_follow xs ys)

-- the records fit so far, and so all do where those to come do
fit_follows : (limit : ℕ) (xs ys : List ℕ) → list_all (fits limit) (cut_of xs).whole ≡ true
    → all_fit limit (cut_of (xs ++ ys)) ≡ all_fit limit (cut_behind (cut_of xs).rest ys)
fit_follows limit xs ys h =
    ap (all_fit limit) (cuts_follow xs ys)
    ∙ (rw (list_all-append (fits limit) (cut_of xs).whole (cut_behind (cut_of xs).rest ys).whole, h) refl)

fits_is : (limit : ℕ) (part : List ℕ) → fits limit part ≡ true → length part ≤ limit
fits_is limit part h = grind (arith, common_steps)

both_fit : (limit : ℕ) (cut : Cut) → all_fit limit cut ≡ true
    → (list_all (fits limit) cut.whole ≡ true) × (fits limit cut.rest ≡ true)
both_fit limit cut h = and_parts (list_all (fits limit) cut.whole) (fits limit cut.rest) h

open_within : (given : List (List ℕ)) (fed : List ℕ) (old : Framing) → Holds given fed old
    → length old.open_bytes ≤ old.limit
open_within given fed old h = rw h.open_bytes
    (fits_is old.limit (cut_of fed).rest (both_fit old.limit (cut_of fed) h.within).1)

-- what was handed out, what waits and what comes with the piece
waits_behind : (given : List (List ℕ)) (fed piece : List ℕ) (old : Framing) → Holds given fed old
    → given ++ (old.waiting ++ (cut_behind old.open_bytes piece).whole) ≡ (cut_of (fed ++ piece)).whole
waits_behind given fed piece old h =
    sym (append_assoc given old.waiting (cut_behind old.open_bytes piece).whole)
    ∙ ap (λ records. records ++ (cut_behind old.open_bytes piece).whole) h.records
    ∙ ap (λ front. (cut_of fed).whole ++ (cut_behind front piece).whole) h.open_bytes
    ∙ sym (whole_follows fed piece)

-- one more piece

pub holds_more : (given : List (List ℕ)) (fed piece : List ℕ) (old new : Framing) → Holds given fed old
    → TakesPiece old piece new → Holds given (fed ++ piece) new
holds_more given fed piece old new h t =
    let parts = both_fit old.limit (cut_of fed) h.within in
    record {
      records = ap (λ waiting. given ++ waiting) t.waiting ∙ waits_behind given fed piece old h;
      open_bytes = t.open_bytes ∙ ap (λ front. (cut_behind front piece).rest) h.open_bytes
          ∙ sym (rest_follows fed piece);
      within = ap (λ limit. all_fit limit (cut_of (fed ++ piece))) t.limit ∙ fit_follows old.limit fed piece parts.0
          ∙ ap (λ front. all_fit old.limit (cut_behind front piece)) (sym h.open_bytes)
          ∙ t.within (open_within given fed old h);
      fault = t.fault ∙ h.fault;
    }

pub passed_more : (given : List (List ℕ)) (fed piece : List ℕ) (old new kept : Framing) → Holds given fed old
    → IsTooLong old piece new → kept.waiting ≡ new.waiting → kept.limit ≡ old.limit
    → Passed given (fed ++ piece) kept
passed_more given fed piece old new kept h t w l =
    let parts = both_fit old.limit (cut_of fed) h.within in
    record {
      records = ap (λ waiting. given ++ waiting) (w ∙ t.waiting)
          ∙ sym (append_assoc given old.waiting (take_while (fits old.limit) (cut_behind old.open_bytes piece).whole))
          ∙ ap (λ records. records ++ take_while (fits old.limit) (cut_behind old.open_bytes piece).whole) h.records
          ∙ ap (λ front. (cut_of fed).whole ++ take_while (fits old.limit) (cut_behind front piece).whole) h.open_bytes
          ∙ sym (take_fitting old.limit (cut_of fed).whole (cut_behind (cut_of fed).rest piece).whole parts.0)
          ∙ ap (take_while (fits old.limit)) (sym (whole_follows fed piece))
          ∙ ap (λ limit. take_while (fits limit) (cut_of (fed ++ piece)).whole) (sym l);
      passed = ap (λ limit. all_fit limit (cut_of (fed ++ piece))) l ∙ fit_follows old.limit fed piece parts.0
          ∙ ap (λ front. all_fit old.limit (cut_behind front piece)) (sym h.open_bytes) ∙ t.passed;
    }

pub front_more : (given : List (List ℕ)) (fed piece : List ℕ) (old : Framing) (waiting : List (List ℕ))
    → Holds given fed old
    → IsFrontOf waiting (old.waiting ++ (cut_behind old.open_bytes piece).whole)
    → IsFrontOf (given ++ waiting) (cut_of (fed ++ piece)).whole
front_more given fed piece old waiting h f = record {
  more = f.more;
  joined = sym (waits_behind given fed piece old h) ∙ ap (λ records. given ++ records) f.joined
      ∙ sym (append_assoc given waiting f.more);
}
