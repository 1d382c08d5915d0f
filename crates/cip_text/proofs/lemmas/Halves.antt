-- A record is its body with its closing after it.
use Rattle.std.proofs.Common.{◌≡◌, ◌≤◌, ◌+◌, ◌-◌, ◌++◌, ℕ, List, [], ◌∷◌, Bool, true, false, refl, sym, ◌∙◌, ap, arith, length, map, take, drop, append_assoc, length-append}
use Rattle.std.specs.List.{concat}
use Rattle.std.proofs.Math.Seq.{take-append_seam, drop-append_seam}
use Rattle.cip_text.specs.Lines.{lines_of, content_of}
use Rattle.cip_text.specs.Kinds.{is_terminator}
use Rattle.cip_text.proofs.lemmas.Firsts.{lines_join}
use Rattle.cip_text.specs.Bodies.{body_lines, body, body_contents, closing, closing_lines}

-- from the terminator line on all is closing
pub closing_itself : (bytes line behind : List ℕ) → lines_of bytes ≡ line ∷ lines_of behind
    → is_terminator (content_of line) ≡ true → closing bytes ≡ bytes
closing_itself bytes line behind l t = rw (l, t) (ap concat (sym l) ∙ lines_join bytes)

abbrev AreHalves : List (List ℕ) → Type 0
AreHalves lines = concat (body_lines lines) ++ concat (closing_lines lines) ≡ concat lines

halves_line : (line : List ℕ) (lines : List (List ℕ)) (k : Bool) → is_terminator (content_of line) ≡ k
    → AreHalves lines → AreHalves (line ∷ lines)
halves_line line lines true e more = rw e refl
halves_line line lines false e more = rw e (append_assoc line (concat (body_lines lines))
    (concat (closing_lines lines)) ∙ ap (λ xs. line ++ xs) more)

halves : (lines : List (List ℕ)) → AreHalves lines
halves [] = refl
halves (line ∷ lines) = halves_line line lines (is_terminator (content_of line)) refl (halves lines)

pub body_closing : (bytes : List ℕ) → body bytes ++ closing bytes ≡ bytes
body_closing bytes = halves (lines_of bytes) ∙ lines_join bytes

pub before_closing : (bytes : List ℕ) → take (length bytes - length (closing bytes)) bytes ≡ body bytes
before_closing bytes =
    let whole : length bytes ≡ length (body bytes) + length (closing bytes) = ap length (sym (body_closing bytes))
    ∙ length-append (body bytes) (closing bytes) in
    let long : length bytes - length (closing bytes) ≡ length (body bytes) = omega (arith, whole) in
    rw long (ap (take (length (body bytes))) (sym (body_closing bytes)) ∙ take-append_seam (body bytes) (closing bytes))

pub behind_body : (bytes : List ℕ) → drop (length bytes - length (closing bytes)) bytes ≡ closing bytes
behind_body bytes =
    let whole : length bytes ≡ length (body bytes) + length (closing bytes) = ap length (sym (body_closing bytes))
    ∙ length-append (body bytes) (closing bytes) in
    let long : length bytes - length (closing bytes) ≡ length (body bytes) = omega (arith, whole) in
    rw long (ap (drop (length (body bytes))) (sym (body_closing bytes)) ∙ drop-append_seam (body bytes) (closing bytes))

pub short_closing : (bytes : List ℕ) → length (closing bytes) ≤ length bytes
short_closing bytes =
    let whole : length bytes ≡ length (body bytes) + length (closing bytes) =
    ap length (sym (body_closing bytes)) ∙ length-append (body bytes) (closing bytes) in
    omega (arith, whole)

-- the content of a line more
pub content_more : (rest line behind : List ℕ) (contents now total : List (List ℕ))
    → body_lines (lines_of rest) ≡ line ∷ body_lines (lines_of behind) → now ≡ contents ++ content_of line ∷ []
    → contents ++ body_contents rest ≡ total → now ++ body_contents behind ≡ total
content_more rest line behind contents now total here added so_far =
    ap (λ before. before ++ body_contents behind) added
    ∙ append_assoc contents (content_of line ∷ []) (body_contents behind)
    ∙ ap (λ lines. contents ++ map content_of lines) (sym here) ∙ so_far
