-- Where lines are, and what is there.
use Rattle.std.proofs.Common.{◌≡◌, ◌≤◌, ◌+◌, ◌-◌, ◌++◌, ℕ, List, [], ◌∷◌, Some, refl, sym, ◌∙◌, ap, arith, length, take, map, append_assoc, length-append, All, slice_get}
use Rattle.std.specs.List.{concat}
use Rattle.std.specs.Option.{option_map}
use Rattle.std.proofs.lemmas.List.Elements.{All-nil, All-cons}
use Rattle.std.proofs.lemmas.Option.{slice_get-map}
use Rattle.std.proofs.Math.Seq.{take-append_seam, drop-append_seam}
use Rattle.cip_text.specs.declared.line_reader.Line.{Line}
use Rattle.cip_text.specs.Lines.{lines_of, content_of, contents_of, end_of}
use Rattle.cip_text.specs.Places.{place_at, places_from, places_of, text_at, IsWithin}
use Rattle.cip_text.proofs.lemmas.Firsts.{lines_join}
use Rattle.cip_text.proofs.lemmas.Contents.{parts, content_shorter}

within_from : (start most : ℕ) (lines : List (List ℕ)) → start + length (concat lines) ≤ most
    → All (IsWithin most) (places_from start lines)
within_from start most [] room = All-nil (IsWithin most)
within_from start most (line ∷ lines) room =
    let whole : length (line ++ concat lines)
    ≡ length line + length (concat lines) = length-append line (concat lines) in
    let shorter = content_shorter line in
    All-cons (IsWithin most) (place_at start line) (places_from (start + length line) lines)
    (record { content = omega arith; end = omega arith; text = omega arith })
    (within_from (start + length line) most lines (omega arith))

-- every line is within the text
pub places_within : (bytes : List ℕ) → All (IsWithin (length bytes)) (places_of bytes)
places_within bytes = within_from 0 (length bytes) (lines_of bytes) (rw (lines_join bytes) (omega arith))

at_place : (before line behind : List ℕ) → text_at (before ++ (line ++ behind)) (place_at (length before) line)
    ≡ content_of line
at_place before line behind =
    let long : (length before + length (content_of line)) - length before ≡ length (content_of line) = omega arith in
    let whole : line ++ behind ≡ content_of line ++ (end_of line ++ behind) =
    ap (λ xs. xs ++ behind) (sym (parts line)) ∙ append_assoc (content_of line) (end_of line) behind in
    rw (long, drop-append_seam before (line ++ behind))
    (ap (take (length (content_of line))) whole ∙ take-append_seam (content_of line) (end_of line ++ behind))

standing : (before : List ℕ) (lines : List (List ℕ))
    → map (text_at (before ++ concat lines)) (places_from (length before) lines) ≡ map content_of lines
standing before [] = refl
standing before (line ∷ lines) =
    let more : map (text_at ((before ++ line) ++ concat lines)) (places_from (length (before ++ line)) lines)
    ≡ map content_of lines = standing (before ++ line) lines in
    let same : map (text_at (before ++ (line ++ concat lines))) (places_from (length before + length line) lines)
    ≡ map content_of lines =
    ap (λ text. map (text_at text) (places_from (length before + length line) lines))
    (sym (append_assoc before line (concat lines)))
    ∙ ap (λ start. map (text_at ((before ++ line) ++ concat lines)) (places_from start lines))
    (sym (length-append before line)) ∙ more in
    ap (λ xs. xs ∷ map (text_at (before ++ (line ++ concat lines))) (places_from (length before + length line) lines))
    (at_place before line (concat lines))
    ∙ ap (λ xs. content_of line ∷ xs) same

-- each line's content is at its place
pub contents_stand : (bytes : List ℕ) → map (text_at bytes) (places_of bytes) ≡ contents_of bytes
contents_stand bytes = ap (λ text. map (text_at text) (places_of bytes)) (sym (lines_join bytes))
    ∙ standing [] (lines_of bytes)

pub content_stands : (bytes : List ℕ) (line : Line) (k : ℕ) → slice_get (places_of bytes) k ≡ Some line
    → slice_get (contents_of bytes) k ≡ Some (text_at bytes line)
content_stands bytes line k h =
    ap (λ contents. slice_get contents k) (sym (contents_stand bytes))
    ∙ slice_get-map (text_at bytes) (places_of bytes) k ∙ ap (option_map (text_at bytes)) h
