-- Lines that have their ends.
use Rattle.std.proofs.Common.{◌≡◌, ◌<◌, ◌++◌, ℕ, List, [], ◌∷◌, Bool, true, false, not, ◌==◌, nat_lt, if◌then◌else◌, refl, sym, ◌∙◌, ap, arith, length, append_assoc, append-nil}
use Rattle.std.specs.List.{concat, list_all}
use Rattle.std.proofs.lemmas.Bool.{and_parts, not-true, or_parts}
use Rattle.std.proofs.lemmas.Grind.{common_steps}
use Rattle.cip_text.specs.Lines.{lines_of, content_of}
use Rattle.cip_text.specs.Kinds.{is_terminator}
use Rattle.cip_text.specs.Laws.{has_line_feed, is_ended, are_ended}
use Rattle.cip_text.specs.Bodies.{body_lines}
use Rattle.cip_text.specs.Bodies.{closing_lines}
use Rattle.cip_text.specs.Lines.{lf, crlf}

-- a line with its end is the first line of every text that it begins

first_byte : (b : ℕ) (bs behind : List ℕ) (k : Bool) → (b == 10) ≡ k → is_ended (b ∷ bs) ≡ true
    → (is_ended bs ≡ true → lines_of (bs ++ behind) ≡ bs ∷ lines_of behind) →
    lines_of (b ∷ (bs ++ behind)) ≡ (b ∷ bs) ∷ lines_of behind
first_byte b [] behind true e h more = rw e refl
first_byte b (c ∷ cs) behind true e h more = absurd (grind (arith, common_steps, rw e at h))
first_byte b bs behind false e h more = rw (e, more (rw e at h)) refl

pub first_ended : (line behind : List ℕ) → is_ended line ≡ true → lines_of (line ++ behind) ≡ line ∷ lines_of behind
first_ended [] behind h = absurd (grind (arith, h))
first_ended (b ∷ bs) behind h = first_byte b bs behind (b == 10) refl h (first_ended bs behind)

pub lines_ended : (lines : List (List ℕ)) (behind : List ℕ) → list_all is_ended lines ≡ true
    → lines_of (concat lines ++ behind) ≡ lines ++ lines_of behind
lines_ended [] behind h = refl
lines_ended (line ∷ lines) behind h =
    let each = and_parts (is_ended line) (list_all is_ended lines) h in
    rw (
      append_assoc line (concat lines) behind,
      first_ended line (concat lines ++ behind) each.0,
      lines_ended lines behind each.1,
    ) refl

-- a content with an end after it

abbrev pub end_as : Bool → List ℕ
end_as returns = if returns then crlf else lf

lf_byte : (b : ℕ) (bs : List ℕ) (k : Bool) → (b == 10) ≡ k → has_line_feed (b ∷ bs) ≡ false
    → is_ended (bs ++ lf) ≡ true → is_ended (b ∷ (bs ++ lf)) ≡ true
lf_byte b bs true e h more = absurd (grind (arith, common_steps, rw e at h))
lf_byte b bs false e h more = rw e more

lf_ends : (content : List ℕ) → has_line_feed content ≡ false → is_ended (content ++ lf) ≡ true
lf_ends [] h = refl
lf_ends (b ∷ bs) h = lf_byte b bs (b == 10) refl h (lf_ends bs (or_parts (b == 10) (has_line_feed bs) h).1)

pub return_no_feed : (content : List ℕ) → has_line_feed content ≡ false → has_line_feed (content ++ 13 ∷ []) ≡ false
return_no_feed [] h = refl
return_no_feed (b ∷ bs) h =
    let each = or_parts (b == 10) (has_line_feed bs) h in
    rw (each.0, return_no_feed bs each.1) refl

pub ends : (content : List ℕ) (returns : Bool) → has_line_feed content ≡ false
    → is_ended (content ++ end_as returns) ≡ true
ends content true h = rw (sym (append_assoc content (13 ∷ []) (10 ∷ [])))
    (lf_ends (content ++ 13 ∷ []) (return_no_feed content h))
ends content false h = lf_ends content h

pub end_ended : (returns : Bool) → is_ended (end_as returns) ≡ true
end_ended true = refl
end_ended false = refl

-- lines of which the last one may lack its end

abbrev pub OpenLine : List ℕ → Type 0
OpenLine line = (0 < length line) × (has_line_feed line ≡ false)

pub last_open : (line : List ℕ) → is_ended line ≡ false → are_ended (line ∷ []) ≡ true → OpenLine line
last_open line e h =
    let each = and_parts (nat_lt 0 (length line)) (not (has_line_feed line)) (rw e at h) in
    (grind (arith, common_steps, each.0), not-true (has_line_feed line) each.1)

open_line : (line : List ℕ) → 0 < length line → has_line_feed line ≡ false → lines_of line ≡ line ∷ []
open_line [] some h = absurd (omega arith)
open_line (b ∷ []) some h = rw (or_parts (b == 10) false h).0 refl
open_line (b ∷ c ∷ cs) some h =
    let each = or_parts (b == 10) (has_line_feed (c ∷ cs)) h in
    rw (each.0, open_line (c ∷ cs) (omega arith) each.1) refl

last_line : (line : List ℕ) (k : Bool) → is_ended line ≡ k → are_ended (line ∷ []) ≡ true → lines_of line ≡ line ∷ []
last_line line true e h = ap lines_of (sym (append-nil line)) ∙ first_ended line [] e
last_line line false e h =
    let is_open = last_open line e h in
    open_line line is_open.0 is_open.1

-- the lines of their own text
pub own_lines : (lines : List (List ℕ)) → are_ended lines ≡ true → lines_of (concat lines) ≡ lines
own_lines [] h = refl
own_lines (line ∷ []) h = rw (append-nil line) (last_line line (is_ended line) refl h)
own_lines (line ∷ next ∷ lines) h =
    let each = and_parts (is_ended line) (are_ended (next ∷ lines)) h in
    first_ended line (concat (next ∷ lines)) each.0 ∙ ap (λ xs. line ∷ xs) (own_lines (next ∷ lines) each.1)

-- the lines of body and closing

pub others : (line : List ℕ) (lines : List (List ℕ)) → are_ended (line ∷ lines) ≡ true → are_ended lines ≡ true
others line [] h = refl
others line (next ∷ lines) h = (and_parts (is_ended line) (are_ended (next ∷ lines)) h).1

closing_line : (line : List ℕ) (lines : List (List ℕ)) (k : Bool) → is_terminator (content_of line) ≡ k
    → are_ended (line ∷ lines) ≡ true → are_ended (closing_lines lines) ≡ true →
    are_ended (closing_lines (line ∷ lines)) ≡ true
closing_line line lines true e h more = rw e h
closing_line line lines false e h more = rw e more

pub closing_ended : (lines : List (List ℕ)) → are_ended lines ≡ true → are_ended (closing_lines lines) ≡ true
closing_ended [] h = refl
closing_ended (line ∷ lines) h = closing_line line lines (is_terminator (content_of line)) refl h
    (closing_ended lines (others line lines h))

before_ended : (line : List ℕ) (lines : List (List ℕ)) → is_ended line ≡ true → are_ended lines ≡ true
    → are_ended (line ∷ lines) ≡ true
before_ended line [] e h = rw e refl
before_ended line (next ∷ lines) e h = rw e h

body_line : (line : List ℕ) (lines : List (List ℕ)) (k : Bool) → is_terminator (content_of line) ≡ k
    → are_ended (line ∷ lines) ≡ true → are_ended (body_lines lines) ≡ true →
    are_ended (body_lines (line ∷ lines)) ≡ true
body_line line lines true e h more = rw e refl
body_line line [] false e h more = rw e h
body_line line (next ∷ lines) false e h more =
    rw e (before_ended line (body_lines (next ∷ lines)) (and_parts (is_ended line) (are_ended (next ∷ lines)) h).0 more)

pub body_ended : (lines : List (List ℕ)) → are_ended lines ≡ true → are_ended (body_lines lines) ≡ true
body_ended [] h = refl
body_ended (line ∷ lines) h = body_line line lines (is_terminator (content_of line)) refl h
    (body_ended lines (others line lines h))
