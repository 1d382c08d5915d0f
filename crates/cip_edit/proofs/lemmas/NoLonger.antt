-- A record without its label items is no longer than it.
use Rattle.std.proofs.Common.{◌≡◌, ◌≤◌, ◌+◌, ℕ, List, [], ◌∷◌, Bool, true, false, if◌then◌else◌, sym, ◌∙◌, ap, arith, length}
use Rattle.std.specs.List.{concat}
use Rattle.std.proofs.lemmas.List.{length-append}
use Rattle.cip_text.specs.Lines.{lines_of, content_of}
use Rattle.cip_text.specs.Bodies.{body, body_contents, body_lines, closing}
use Rattle.cip_text.proofs.lemmas.Halves.{body_closing}
use Rattle.cip_item.specs.Parts.{part_of, next_part, first_part, is_label_item, kept_lines, without_label_items}

line_kept : (taken : Bool) (line : List ℕ) (kept lines : List (List ℕ)) → length (concat kept) ≤ length (concat lines)
    → length (concat (if taken then kept else line ∷ kept)) ≤ length (concat (line ∷ lines))
line_kept true line kept lines le = rw (length-append line (concat lines)) (omega (arith, le))
line_kept false line kept lines le =
    rw (length-append line (concat kept), length-append line (concat lines)) (omega (arith, le))

lines_kept : (before : _) (lines : List (List ℕ)) → length (concat (kept_lines before lines)) ≤ length (concat lines)
lines_kept before [] = omega arith
lines_kept before (line ∷ lines) =
    let next = next_part before (content_of line) in
    line_kept (is_label_item (part_of before (content_of line))) line (kept_lines next lines) lines
    (lines_kept next lines)

pub no_longer : (bytes : List ℕ) → length (without_label_items bytes) ≤ length bytes
no_longer bytes =
    let part = first_part (body_contents bytes) in
    let lines = body_lines (lines_of bytes) in
    let whole : length (body bytes) + length (closing bytes) ≡ length bytes =
    sym (length-append (body bytes) (closing bytes)) ∙ ap length (body_closing bytes) in
    rw (length-append (concat (kept_lines part lines)) (closing bytes)) (omega (arith, lines_kept part lines, whole))
