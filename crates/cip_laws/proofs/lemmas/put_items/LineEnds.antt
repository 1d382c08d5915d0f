-- The line end of a record stays the same where its last line gets the end that it lacks.
use Rattle.std.proofs.Common.{◌≡◌, ◌<◌, ◌++◌, ℕ, List, [], ◌∷◌, Bool, true, false, ◌==◌, refl, sym, ◌∙◌, ap, arith, length, get_or, append_assoc, append-nil}
use Rattle.std.specs.List.{concat}
use Rattle.std.proofs.lemmas.Bool.{and_parts, or_parts}
use Rattle.cip_text.specs.Lines.{content_of, ends_with_byte}
use Rattle.cip_text.specs.Kinds.{is_terminator}
use Rattle.cip_text.specs.Laws.{has_line_feed, is_ended, are_ended}
use Rattle.cip_text.specs.Bodies.{body_lines}
use Rattle.cip_text.specs.Bodies.{closing_lines}
use Rattle.cip_item.specs.Putting.{has_returns, missing_end}
use Rattle.cip_text.specs.Lines.{crlf}
use Rattle.cip_item.proofs.lemmas.Closed.{closed, none_missing, crlf_missing, end_missing}
use Rattle.cip_text.proofs.lemmas.Ended.{end_as, last_open, return_no_feed}
use Rattle.cip_text.proofs.lemmas.LastBytes.{last_behind}

-- the first line decides where it has its end

ended_byte : (b : ℕ) (bs behind : List ℕ) (before k : Bool) → (b == 10) ≡ k → is_ended (b ∷ bs) ≡ true →
    ((next : Bool) → is_ended bs ≡ true → has_returns next (bs ++ behind) ≡ has_returns next bs)
    → has_returns before (b ∷ (bs ++ behind)) ≡ has_returns before (b ∷ bs)
ended_byte b bs behind before true e h more = rw e refl
ended_byte b bs behind before false e h more = rw e (more (b == 13) (rw e at h))

ended_decides : (line behind : List ℕ) (before : Bool) → is_ended line ≡ true
    → has_returns before (line ++ behind) ≡ has_returns before line
ended_decides [] behind before h = absurd (grind (arith, h))
ended_decides (b ∷ bs) behind before h = ended_byte b bs behind before (b == 10) refl h
    (λ next. ended_decides bs behind next)

-- and its last byte where it has none

feed_decides : (line behind : List ℕ) (before : Bool) → has_line_feed line ≡ false
    → has_returns before (line ++ 10 ∷ behind) ≡ has_returns before line
feed_decides [] behind before h = refl
feed_decides (b ∷ bs) behind before h =
    let each = or_parts (b == 10) (has_line_feed bs) h in
    rw each.0 (feed_decides bs behind (b == 13) each.1)

returns_at_last : (line : List ℕ) (before : Bool) → has_line_feed line ≡ false
    → has_returns before (line ++ 13 ∷ []) ≡ true
returns_at_last [] before h = refl
returns_at_last (b ∷ bs) before h =
    let each = or_parts (b == 10) (has_line_feed bs) h in
    rw each.0 (returns_at_last bs (b == 13) each.1)

last_decides : (line : List ℕ) (before : Bool) → 0 < length line → has_line_feed line ≡ false
    → has_returns before line ≡ ends_with_byte 13 line
last_decides [] before some h = absurd (omega arith)
last_decides (b ∷ []) before some h = rw (or_parts (b == 10) false h).0 refl
last_decides (b ∷ c ∷ cs) before some h =
    let each = or_parts (b == 10) (has_line_feed (c ∷ cs)) h in
    rw each.0 (last_decides (c ∷ cs) (b == 13) (omega arith) each.1
    ∙ sym (last_behind 13 (b ∷ []) (c ∷ cs) (omega arith)))

-- one line, with the end that it lacked and with more after it

open_line : (line behind : List ℕ) (returns k : Bool) → ends_with_byte 13 line ≡ k → returns ≡ has_returns false line
    → 0 < length line → has_line_feed line ≡ false →
    has_returns false ((line ++ missing_end (end_as returns) line) ++ behind) ≡ returns
open_line line behind returns true e r some h =
    let is : returns ≡ true = r ∙ last_decides line false some h ∙ e in
    let text : (line ++ missing_end (end_as returns) line) ++ behind ≡ (line ++ 13 ∷ []) ++ 10 ∷ behind =
    rw (
      crlf_missing (end_as returns) line some h e,
      append_assoc line crlf behind,
      append_assoc line (13 ∷ []) (10 ∷ behind),
    ) refl in
    ap (has_returns false) text ∙ feed_decides (line ++ 13 ∷ []) behind false (return_no_feed line h)
    ∙ returns_at_last line false h ∙ sym is
open_line line behind returns false e r some h =
    let is : returns ≡ false = r ∙ last_decides line false some h ∙ e in
    let text : (line ++ missing_end (end_as returns) line) ++ behind
    ≡ line ++ 10 ∷ behind = rw (end_missing (end_as returns) line some h e, is)
    (append_assoc line (10 ∷ []) behind) in
    ap (has_returns false) text ∙ feed_decides line behind false h ∙ sym r

one_line : (line others behind : List ℕ) (returns k : Bool) → is_ended line ≡ k
    → returns ≡ has_returns false (line ++ others) → are_ended (line ∷ []) ≡ true → (k ≡ false → others ≡ []) →
    has_returns false ((line ++ missing_end (end_as returns) line) ++ behind) ≡ returns
one_line line others behind returns true e r h none =
    ap (λ xs. has_returns false (xs ++ behind))
    (ap (λ xs. line ++ xs) (none_missing (end_as returns) line e) ∙ append-nil line)
    ∙ ended_decides line behind false e ∙ sym (ended_decides line others false e) ∙ sym r
one_line line others behind returns false e r h none =
    let is_open = last_open line e h in
    let alone : returns ≡ has_returns false line = r
    ∙ ap (has_returns false) (ap (λ xs. line ++ xs) (none refl) ∙ append-nil line) in
    open_line line behind returns (ends_with_byte 13 line) refl alone is_open.0 is_open.1

-- all lines

pub same_returns : (lines : List (List ℕ)) (closing more : List ℕ) (returns : Bool)
    → returns ≡ has_returns false (concat lines ++ closing) → are_ended lines ≡ true →
    ((line : List ℕ) → lines ≡ line ∷ [] → is_ended line ≡ false → closing ≡ []) → (lines ≡ [] → more ≡ []) →
    has_returns false ((concat (closed (end_as returns) lines) ++ more) ++ closing) ≡ returns
same_returns [] closing more returns r h last none = rw (none refl) (sym r)
same_returns (line ∷ []) closing more returns r h last none =
    let end : List ℕ = missing_end (end_as returns) line in
    let text : (((line ++ end) ++ []) ++ more) ++ closing
    ≡ (line ++ end) ++ (more ++ closing) =
    rw (append-nil (line ++ end)) (append_assoc (line ++ end) more closing) in
    let alone : returns ≡ has_returns false (line ++ closing) = r
    ∙ ap (λ xs. has_returns false (xs ++ closing)) (append-nil line) in
    ap (has_returns false) text ∙ one_line line closing (more ++ closing) returns (is_ended line) refl alone h
    (last line refl)
same_returns (line ∷ next ∷ lines) closing more returns r h last none =
    let first : is_ended line ≡ true = (and_parts (is_ended line) (are_ended (next ∷ lines)) h).0 in
    let rest : List ℕ = concat (closed (end_as returns) (next ∷ lines)) in
    let text : ((line ++ rest) ++ more) ++ closing
    ≡ line ++ (rest ++ (more ++ closing)) = append_assoc (line ++ rest) more closing
    ∙ append_assoc line rest (more ++ closing) in
    ap (has_returns false) text
    ∙ ended_decides line (rest ++ (more ++ closing)) false first
    ∙ sym (ended_decides line (concat (next ∷ lines) ++ closing) false first)
    ∙ sym (ap (has_returns false) (append_assoc line (concat (next ∷ lines)) closing))
    ∙ sym r

-- after a line that lacks its end there is no closing

no_closing_line : (first : List ℕ) (lines : List (List ℕ)) (line : List ℕ) (k : Bool)
    → is_terminator (content_of first) ≡ k → are_ended (first ∷ lines) ≡ true →
    body_lines (first ∷ lines) ≡ line ∷ [] → is_ended line ≡ false → closing_lines (first ∷ lines) ≡ []
no_closing_line first lines line true e h b o =
    let none : [] ≡ line ∷ [] = rw e at b in
    let count : 0 ≡ 1 = ap (λ (xs : List (List ℕ)). length xs) none in
    absurd (omega (arith, count))
no_closing_line first [] line false e h b o = rw e refl
no_closing_line first (next ∷ lines) line false e h b o =
    let one : first ∷ body_lines (next ∷ lines) ≡ line ∷ [] = rw e at b in
    let same : first ≡ line = ap (λ xs. get_or xs 0 []) one in
    let is : is_ended line ≡ true = ap is_ended (sym same)
    ∙ (and_parts (is_ended first) (are_ended (next ∷ lines)) h).0 in
    absurd (grind (arith, rw is at o))

pub no_closing : (lines : List (List ℕ)) (line : List ℕ) → are_ended lines ≡ true → body_lines lines ≡ line ∷ []
    → is_ended line ≡ false → closing_lines lines ≡ []
no_closing [] line h b o = refl
no_closing (first ∷ lines) line h b o = no_closing_line first lines line (is_terminator (content_of first)) refl h b o
