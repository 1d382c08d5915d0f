-- Lines that are placed one after the other.
use Rattle.std.proofs.Common.{◌≡◌, ◌≤◌, ◌+◌, ◌++◌, ◌∙◌, ℕ, List, [], ◌∷◌, Bool, true, false, ◌==◌, refl, arith, length, length-append, append_assoc}
use Rattle.std.specs.List.{concat, onto_first}
use Rattle.cip_text.specs.Lines.{lines_of}
use Rattle.cip_text.specs.Places.{place_at, places_from}
use Rattle.cip_text.specs.declared.line_reader.Line.{Line}

few_onto : (b : ℕ) (lines : List (List ℕ)) → length (onto_first b lines) ≤ length lines + 1
few_onto b [] = omega arith
few_onto b (line ∷ lines) = omega arith

few_byte : (b : ℕ) (bs : List ℕ) (k : Bool) → (b == 10) ≡ k → length (lines_of bs) ≤ length bs
    → length (lines_of (b ∷ bs)) ≤ length (b ∷ bs)
few_byte b bs true e more = rw e (omega (arith, more))
few_byte b bs false e more = rw e (omega (arith, few_onto b (lines_of bs), more))

-- a line has a byte at least
pub few_lines : (bytes : List ℕ) → length (lines_of bytes) ≤ length bytes
few_lines [] = omega arith
few_lines (b ∷ bs) = few_byte b bs (b == 10) refl (few_lines bs)

-- a line more is placed
pub next_placed : (lines now : List Line) (start long : ℕ) (line : List ℕ) (before rest : List (List ℕ)) (place : Line)
    (total : List Line)
    → before ≡ line ∷ rest → place ≡ place_at start line → now ≡ lines ++ place ∷ []
    → lines ++ places_from start before ≡ total → start + length (concat before) ≡ long
    → length lines + length before ≤ long
    → (now ++ places_from place.next rest ≡ total) × (place.next + length (concat rest) ≡ long)
    × (length now + length rest ≤ long)
next_placed lines now start long line before rest place total step is pushed so_far whole few =
    let here = rw step at so_far in
    let left = rw step at whole in
    let more = rw step at few in
    let one = length-append lines (place_at start line ∷ []) in
    rw (pushed, is) (
      append_assoc lines (place_at start line ∷ []) (places_from (start + length line) rest) ∙ here,
      omega (arith, left, length-append line (concat rest)),
      omega (arith, more, one),
    )
