-- What the loop over the parts of a piece keeps.
use Rattle.std.proofs.Common.{◌≡◌, ◌≤◌, ◌<◌, ◌+◌, ℕ, List, [], ◌∷◌, ◌++◌, length, Bool, true, false, refl, sym, ◌∙◌, ap, arith, append_assoc, append-nil, length-append}
use Rattle.std.specs.List.{take_while}
use Rattle.std.proofs.lemmas.List.Sums.{take_while-cons}
use Rattle.cip_frame.specs.Records.{is_closing, open_line}
use Rattle.cip_frame.specs.Framing.{Framing, IsFrontOf, fits}
use Rattle.cip_frame.specs.Following.{cut_behind}
use Rattle.cip_frame.specs.Taking.{is_line, Ahead, ArePlain, IsTooLong, TakesLine}
use Rattle.cip_frame.proofs.lemmas.PieceLines.{line_closing, line_open}
use Rattle.cip_frame.proofs.lemmas.Limits.{over_front, over_line}
use Rattle.cip_frame.proofs.lemmas.PlainLines.{plain_cut}

ahead_by : (old : Framing) (piece : List ℕ) (now : Framing) (line behind : List ℕ) (new : Framing) (k : Bool)
    → is_closing (open_line now.open_bytes ++ line) ≡ k → is_line line ≡ true
    → Ahead old piece now (line ++ behind) → TakesLine now line new → Ahead old piece new behind
ahead_by old piece now line behind new true k h a t =
    let w : new.waiting ≡ now.waiting ++ (now.open_bytes ++ line) ∷ [] = rw k at t.waiting in
    let n : new.open_bytes ≡ [] = rw k at t.open_bytes in
    let cuts = line_closing now.open_bytes line behind h k in
    let r : fits old.limit (now.open_bytes ++ line)
    ≡ true = rw (length-append now.open_bytes line) (grind (arith, t.within, a.limit)) in
    record {
      waiting = rw (w, n, append_assoc now.waiting ((now.open_bytes ++ line) ∷ []) (cut_behind [] behind).whole)
          (rw cuts at a.waiting);
      rest = rw n (rw cuts at a.rest);
      fit = rw n (rw (cuts, r) at a.fit);
      fitting = rw (
        w,
        n,
        append_assoc now.waiting ((now.open_bytes ++ line) ∷ [])
            (take_while (fits old.limit) (cut_behind [] behind).whole),
      )
          (rw (cuts, take_while-cons (fits old.limit) (now.open_bytes ++ line) (cut_behind [] behind).whole, r) at
          a.fitting);
      within = λ _. rw n (omega arith);
      limit = t.limit ∙ a.limit;
      fault = t.fault ∙ a.fault;
    }
ahead_by old piece now line behind new false k h a t =
    let w : new.waiting ≡ now.waiting = rw k at t.waiting in
    let n : new.open_bytes ≡ now.open_bytes ++ line = rw k at t.open_bytes in
    let cuts = line_open now.open_bytes line behind h k in
    record {
      waiting = rw (w, n) (rw cuts at a.waiting);
      rest = rw n (rw cuts at a.rest);
      fit = rw n (rw cuts at a.fit);
      fitting = rw (w, n) (rw cuts at a.fitting);
      within = λ _. rw (n, length-append now.open_bytes line) (omega (arith, t.within, a.limit));
      limit = t.limit ∙ a.limit;
      fault = t.fault ∙ a.fault;
    }

-- one line more
pub ahead_line : (old : Framing) (piece : List ℕ) (now : Framing) (line behind : List ℕ) (new : Framing)
    → is_line line ≡ true → Ahead old piece now (line ++ behind) → TakesLine now line new → Ahead old piece new behind
ahead_line old piece now line behind new h a t =
    ahead_by old piece now line behind new (is_closing (open_line now.open_bytes ++ line)) refl h a t

-- the record is too long with the next line
pub ahead_over : (old : Framing) (piece : List ℕ) (now : Framing) (line behind : List ℕ) → is_line line ≡ true
    → Ahead old piece now (line ++ behind) → now.limit < length now.open_bytes + length line → IsTooLong old piece now
ahead_over old piece now line behind h a more =
    let over = over_line old.limit now.open_bytes line behind h (rw a.limit at more) in
    record {
      waiting = sym (append-nil now.waiting) ∙ ap (λ parts. now.waiting ++ parts) (sym over.none) ∙ a.fitting;
      passed = sym a.fit ∙ over.over;
    }

-- nothing was taken yet
pub ahead_first : (now : Framing) (bytes : List ℕ) → Ahead now bytes now bytes
ahead_first now bytes = record {
  waiting = refl;
  rest = refl;
  fit = refl;
  fitting = refl;
  within = λ few. few;
  limit = refl;
  fault = refl;
}

-- one part and then another
pub ahead_through : (old : Framing) (piece : List ℕ) (now : Framing) (left : List ℕ) (new : Framing) (behind : List ℕ)
    → Ahead old piece now left → Ahead now left new behind → Ahead old piece new behind
ahead_through old piece now left new behind a b = record {
  waiting = b.waiting ∙ a.waiting;
  rest = b.rest ∙ a.rest;
  fit = rw a.limit at b.fit ∙ a.fit;
  fitting = rw a.limit at b.fitting ∙ a.fitting;
  within = λ few. rw a.limit at b.within (a.within few);
  limit = b.limit ∙ a.limit;
  fault = b.fault ∙ a.fault;
}

pub too_long_through : (old : Framing) (piece : List ℕ) (now : Framing) (left : List ℕ) (new : Framing)
    → Ahead old piece now left → IsTooLong now left new → IsTooLong old piece new
too_long_through old piece now left new a t = record {
  waiting = rw a.limit at t.waiting ∙ a.fitting;
  passed = sym a.fit ∙ rw a.limit at t.passed;
}

-- whole lines without a dollar sign
pub ahead_plain : (now : Framing) (lines behind : List ℕ) → open_line now.open_bytes ≡ [] → ArePlain lines
    → length now.open_bytes + length lines ≤ now.limit
    → Ahead now (lines ++ behind) (record now { open_bytes = now.open_bytes ++ lines }) behind
ahead_plain now lines behind begun are few =
    let cuts = plain_cut now.open_bytes lines behind (rw begun refl) are.plain in
    record {
      waiting = rw cuts refl;
      rest = rw cuts refl;
      fit = rw cuts refl;
      fitting = rw cuts refl;
      within = λ _. rw (length-append now.open_bytes lines) few;
      limit = refl;
      fault = refl;
    }

-- the record is too long with them
pub plain_over : (now : Framing) (lines behind : List ℕ) → open_line now.open_bytes ≡ [] → ArePlain lines
    → now.limit < length now.open_bytes + length lines → IsTooLong now (lines ++ behind) now
plain_over now lines behind begun are more =
    let longer : now.limit < length (now.open_bytes ++ lines) = rw (length-append now.open_bytes lines) more in
    let over = rw (sym (plain_cut now.open_bytes lines behind (rw begun refl) are.plain)) at
    (over_front now.limit (now.open_bytes ++ lines) behind longer) in
    record {
      waiting = sym (append-nil now.waiting) ∙ ap (λ parts. now.waiting ++ parts) (sym over.none);
      passed = over.over;
    }

-- what waits goes on
pub ahead_front : (old : Framing) (piece : List ℕ) (now : Framing) (left : List ℕ) (new : Framing)
    → Ahead old piece now left → new.waiting ≡ now.waiting
    → IsFrontOf new.waiting (old.waiting ++ (cut_behind old.open_bytes piece).whole)
ahead_front old piece now left new a w = record {
  more = (cut_behind now.open_bytes left).whole;
  joined = rw w (sym a.waiting);
}
