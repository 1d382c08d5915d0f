-- A record that is made of lines with their ends and of the closing of another one.
use Rattle.std.proofs.Common.{◌≡◌, ◌++◌, ℕ, List, [], ◌∷◌, Bool, true, false, not, refl, ◌∙◌, ap, map}
use Rattle.std.specs.List.{concat, list_all}
use Rattle.std.proofs.lemmas.Bool.{and_parts, not-true}
use Rattle.cip_text.specs.Lines.{lines_of, content_of}
use Rattle.cip_text.specs.Kinds.{is_terminator}
use Rattle.cip_text.specs.Laws.{is_ended}
use Rattle.cip_text.proofs.lemmas.Ends as texts
use Rattle.cip_text.specs.Bodies.{body_lines}
use Rattle.cip_text.specs.Bodies.{closing_lines, closing}
use Rattle.cip_text.proofs.lemmas.Ended.{lines_ended, own_lines, closing_ended}
use Rattle.cip_item.proofs.lemmas.ItemLines.{no_terminators}

-- a body has no terminator line

body_line : (line : List ℕ) (lines : List (List ℕ)) (k : Bool) → is_terminator (content_of line) ≡ k
    → no_terminators (map content_of (body_lines lines)) ≡ true →
    no_terminators (map content_of (body_lines (line ∷ lines))) ≡ true
body_line line lines true e more = rw e refl
body_line line lines false e more = rw (e, e) more

pub body_no_terminators : (lines : List (List ℕ)) → no_terminators (map content_of (body_lines lines)) ≡ true
body_no_terminators [] = refl
body_no_terminators (line ∷ lines) = body_line line lines (is_terminator (content_of line)) refl
    (body_no_terminators lines)

-- a closing has no body, and is its own closing

record Closes (lines : List (List ℕ)) : Type 0 where
  body : body_lines (closing_lines lines) ≡ []
  closing : closing_lines (closing_lines lines) ≡ closing_lines lines

closes_line : (line : List ℕ) (lines : List (List ℕ)) (k : Bool) → is_terminator (content_of line) ≡ k → Closes lines
    → Closes (line ∷ lines)
closes_line line lines true e more = record { body = rw (e, e) refl; closing = rw (e, e) refl }
closes_line line lines false e more = record { body = rw e more.body; closing = rw e more.closing }

closes : (lines : List (List ℕ)) → Closes lines
closes [] = record { body = refl; closing = refl }
closes (line ∷ lines) = closes_line line lines (is_terminator (content_of line)) refl (closes lines)

pub body_before : (lines others : List (List ℕ)) → no_terminators (map content_of lines) ≡ true
    → body_lines (lines ++ closing_lines others) ≡ lines
body_before [] others h = (closes others).body
body_before (line ∷ lines) others h =
    let each = and_parts (not (is_terminator (content_of line))) (no_terminators (map content_of lines)) h in
    rw (not-true (is_terminator (content_of line)) each.0, body_before lines others each.1) refl

pub closing_behind : (lines others : List (List ℕ)) → no_terminators (map content_of lines) ≡ true
    → closing_lines (lines ++ closing_lines others) ≡ closing_lines others
closing_behind [] others h = (closes others).closing
closing_behind (line ∷ lines) others h =
    let each = and_parts (not (is_terminator (content_of line))) (no_terminators (map content_of lines)) h in
    rw (not-true (is_terminator (content_of line)) each.0) (closing_behind lines others each.1)

pub record IsMade (lines : List (List ℕ)) (bytes text : List ℕ) : Type 0 where
  pub body : body_lines (lines_of text) ≡ lines
  pub closing : closing text ≡ closing bytes

pub made : (lines : List (List ℕ)) (bytes : List ℕ) → list_all is_ended lines ≡ true
    → no_terminators (map content_of lines) ≡ true → IsMade lines bytes (concat lines ++ closing bytes)
made lines bytes h n =
    let all : lines_of (concat lines ++ closing bytes) ≡ lines ++ closing_lines (lines_of bytes) =
    lines_ended lines (closing bytes) h ∙ ap (λ xs. lines ++ xs)
    (own_lines (closing_lines (lines_of bytes)) (closing_ended (lines_of bytes) (texts.lines_ended bytes))) in
    record {
      body = ap body_lines all ∙ body_before lines (lines_of bytes) n;
      closing = ap (λ xs. concat (closing_lines xs)) all ∙ ap concat (closing_behind lines (lines_of bytes) n);
    }
