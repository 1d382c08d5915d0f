-- A line's content is at its front.
use Rattle.std.proofs.Common.{◌≡◌, ◌≤◌, ◌+◌, ◌-◌, ◌++◌, ℕ, zero, suc, List, [], ◌∷◌, Bool, true, false, refl, sym, ◌∙◌, ap, arith, length, take, drop, append_assoc, append-nil, length-append}
use Rattle.std.proofs.Math.Seq.{drop-length, drop-append_seam}
use Rattle.cip_text.specs.Lines.{ends_with_byte, without_last, without_return, content_of, end_of}

abbrev IsFront : List ℕ → List ℕ → Type 0
IsFront front text = front ++ drop (length front) text ≡ text

itself : (text : List ℕ) → IsFront text text
itself text = rw (drop-length text) (append-nil text)

taken : (n : ℕ) (text : List ℕ) → IsFront (take n text) text
taken zero text = refl
taken (suc n) [] = refl
taken (suc n) (b ∷ bs) = ap (λ xs. b ∷ xs) (taken n bs)

front_of_front : (front middle text : List ℕ) → IsFront middle text → IsFront front middle → IsFront front text
front_of_front front middle text m f =
    let parts : text ≡ front ++ (drop (length front) middle ++ drop (length middle) text) =
    sym m ∙ ap (λ xs. xs ++ drop (length middle) text) (sym f)
    ∙ append_assoc front (drop (length front) middle) (drop (length middle) text) in
    ap (λ xs. front ++ drop (length front) xs) parts
    ∙ ap (λ xs. front ++ xs) (drop-append_seam front (drop (length front) middle ++ drop (length middle) text))
    ∙ sym parts

without_return_front : (text : List ℕ) (k : Bool) → ends_with_byte 13 text ≡ k → IsFront (without_return text) text
without_return_front text true e = rw e (taken (length text - 1) text)
without_return_front text false e = rw e (itself text)

content_front : (line : List ℕ) (k : Bool) → ends_with_byte 10 line ≡ k → IsFront (content_of line) line
content_front line true e = rw e (front_of_front (without_return (without_last line)) (without_last line) line
    (taken (length line - 1) line) (without_return_front (without_last line) (ends_with_byte 13 (without_last line)) refl))
content_front line false e = rw e (itself line)

-- a line is its content with its end after it
pub parts : (line : List ℕ) → content_of line ++ end_of line ≡ line
parts line = content_front line (ends_with_byte 10 line) refl

pub content_shorter : (line : List ℕ) → length (content_of line) ≤ length line
content_shorter line =
    let whole : length (content_of line) + length (end_of line)
    ≡ length line = sym (length-append (content_of line) (end_of line)) ∙ ap length (parts line) in
    omega arith
