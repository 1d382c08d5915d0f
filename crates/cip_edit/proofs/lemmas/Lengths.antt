-- How long a record gets that is edited.
use Rattle.std.proofs.Common.{◌≡◌, ◌≤◌, ◌+◌, ◌-◌, ◌*◌, ◌++◌, ℕ, suc, List, [], ◌∷◌, Some, refl, sym, ◌∙◌, ap, arith, length, map, inl, inr, length-append}
use Rattle.std.specs.Prelude.{slice_get}
use Rattle.std.specs.List.{concat}
use Rattle.std.proofs.lemmas.Bool.{cases_lt}
use Rattle.cip_text.specs.Lines.{lines_of, content_of, end_of}
use Rattle.cip_text.specs.Bodies.{body_lines, body, closing}
use Rattle.cip_text.proofs.lemmas.Contents as contents
use Rattle.cip_text.proofs.lemmas.Halves.{body_closing}
use Rattle.cip_edit.specs.Edits.{Edit, edited_lines}
use Rattle.cip_edit.specs.EditLaws.{EditsGrowLittle}

line_parts : (line : List ℕ) → length line ≡ length (content_of line) + length (end_of line)
line_parts line = ap length (sym (contents.parts line)) ∙ length-append (content_of line) (end_of line)

lines_long : (edit : Edit) (most number : ℕ) (lines : List (List ℕ))
    → ((k : ℕ) (content : List ℕ) → slice_get (map content_of lines) k ≡ Some content
    → length (edit (number + k) content) ≤ length content + 30)
    → ((k : ℕ) (content : List ℕ) → most ≤ k → edit k content ≡ content)
    → length (concat (edited_lines edit number lines)) ≤ length (concat lines) + 30 * (most - number)
lines_long edit most number [] few still = omega arith
lines_long edit most number (line ∷ lines) few still =
    let content : List ℕ = content_of line in
    let first : number + 0 ≡ number = omega arith in
    let here : length (edit number content) ≤ length content + 30 = rw first at (few 0 content refl) in
    let more : length (concat (edited_lines edit (number + 1) lines)) ≤ length (concat lines) + 30 *
    (most - (number + 1)) =
    lines_long edit most (number + 1) lines (λ k other is.
    let next : number + suc k ≡ number + 1 + k = omega arith in rw next at (few (suc k) other is)) still in
    let new : length ((edit number content ++ end_of line) ++ concat (edited_lines edit (number + 1) lines))
    ≡ length (edit number content) + length (end_of line) + length (concat (edited_lines edit (number + 1) lines)) =
    length-append (edit number content ++ end_of line) (concat (edited_lines edit (number + 1) lines))
    ∙ ap (λ n. n + length (concat (edited_lines edit (number + 1) lines)))
    (length-append (edit number content) (end_of line)) in
    let old : length (line ++ concat lines) ≡ length content + length (end_of line) + length (concat lines) =
    length-append line (concat lines) ∙ ap (λ n. n + length (concat lines)) (line_parts line) in
    elim (cases_lt number most) [
      | inl among ↦ omega (arith, here, more, new, old, among)
      | inr behind ↦
          let same : length (edit number content) ≡ length content = ap length (still number content behind) in
          omega (arith, same, more, new, old, behind)
    ]

pub edits_grow_little : EditsGrowLittle
edits_grow_little edit most bytes grows =
    let lines : List (List ℕ) = body_lines (lines_of bytes) in
    let long : length (concat (edited_lines edit 0 lines)) ≤ length (concat lines) + 30 * (most - 0) =
    lines_long edit most 0 lines (λ k content is. let same : 0 + k ≡ k = omega arith in
    rw same (grows.few k content is)) grows.still in
    let old : length bytes ≡ length (concat lines) + length (closing bytes) =
    ap length (sym (body_closing bytes)) ∙ length-append (body bytes) (closing bytes) in
    omega (arith, long, old, length-append (concat (edited_lines edit 0 lines)) (closing bytes))
