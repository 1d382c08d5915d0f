-- The cuts of a stream, byte by byte, are those of its lines.
use Rattle.std.proofs.Common.{◌≡◌, ℕ, List, [], ◌∷◌, ◌++◌, length, Bool, true, false, refl, sym, ◌∙◌, ap, arith, append_assoc, append-nil, length-append, ◌==◌, nat_lt, get_or, if◌then◌else◌}
use Rattle.std.specs.List.{onto_first}
use Rattle.std.proofs.Math.Seq.{get_or-append_seam}
use Rattle.std.proofs.lemmas.List.Sums.{fold-append}
use Rattle.cip_text.specs.Lines.{lines_of, ends_with_byte}
use Rattle.cip_text.proofs.lemmas.LastBytes.{last_place, before_last}
use Rattle.cip_frame.specs.Records.{Cut, with_first, joined_to, with_front, is_closing, cut_lines, cut_of, open_line}
use Rattle.cip_frame.specs.Following.{closes, cut_behind}

-- a byte that ends a record, and one that doesn't

pub cut_closing : (front : List ℕ) (b : ℕ) (bs : List ℕ) → closes front b ≡ true
    → cut_behind front (b ∷ bs) ≡ with_first (front ++ b ∷ []) (cut_behind [] bs)
cut_closing front b bs e = rw e refl

pub cut_open : (front : List ℕ) (b : ℕ) (bs : List ℕ) → closes front b ≡ false
    → cut_behind front (b ∷ bs) ≡ cut_behind (front ++ b ∷ []) bs
cut_open front b bs e = rw e refl

-- fronts

joined_to_none : (parts : List (List ℕ)) (rest : List ℕ)
    → joined_to [] parts rest ≡ record { whole = parts; rest = rest }
joined_to_none [] rest = refl
joined_to_none (part ∷ parts) rest = refl

pub front_none : (cut : Cut) → with_front [] cut ≡ cut
front_none cut = joined_to_none cut.whole cut.rest

joined_to_both : (xs ys : List ℕ) (parts : List (List ℕ)) (rest : List ℕ)
    → with_front xs (joined_to ys parts rest) ≡ joined_to (xs ++ ys) parts rest
joined_to_both xs ys [] rest = rw (append_assoc xs ys rest) refl
joined_to_both xs ys (part ∷ parts) rest = rw (append_assoc xs ys part) refl

pub front_both : (xs ys : List ℕ) (cut : Cut) → with_front xs (with_front ys cut) ≡ with_front (xs ++ ys) cut
front_both xs ys cut = joined_to_both xs ys cut.whole cut.rest

-- a begun line goes onto the first of the lines
abbrev onto : List ℕ → List (List ℕ) → List (List ℕ)
onto [] lines = lines
onto (b ∷ bs) [] = (b ∷ bs) ∷ []
onto (b ∷ bs) (line ∷ lines) = ((b ∷ bs) ++ line) ∷ lines

onto_more : (begun : List ℕ) (b : ℕ) (lines : List (List ℕ))
    → onto begun (onto_first b lines) ≡ onto (begun ++ b ∷ []) lines
onto_more [] b [] = refl
onto_more [] b (line ∷ lines) = refl
onto_more (x ∷ xs) b [] = refl
onto_more (x ∷ xs) b (line ∷ lines) = rw (append_assoc xs (b ∷ []) line) refl

onto_end : (begun : List ℕ) (b : ℕ) (lines : List (List ℕ)) → onto begun ((b ∷ []) ∷ lines) ≡ (begun ++ b ∷ []) ∷ lines
onto_end [] b lines = refl
onto_end (x ∷ xs) b lines = refl

-- the open line, one byte later

pub open_line_end : (front : List ℕ) (b : ℕ) → (b == 10) ≡ true → open_line (front ++ b ∷ []) ≡ []
open_line_end front b e = rw (
  fold-append (λ (line : List ℕ) (c : ℕ). if c == 10 then [] else line ++ c ∷ []) [] front
      (b ∷ []),
  e,
) refl

pub open_line_more : (front : List ℕ) (b : ℕ) → (b == 10) ≡ false
    → open_line (front ++ b ∷ []) ≡ open_line front ++ b ∷ []
open_line_more front b e = rw (
  fold-append (λ (line : List ℕ) (c : ℕ). if c == 10 then [] else line ++ c ∷ []) []
      front (b ∷ []),
  e,
) refl

-- the last byte of a line, and what is before it

pub last_is : (line : List ℕ) (b : ℕ) → ends_with_byte 10 (line ++ b ∷ []) ≡ (b == 10)
last_is line b =
    let some : nat_lt 0 (length (line ++ b ∷ [])) ≡ true = rw (length-append line (b ∷ [])) (grind arith) in
    let last : get_or (line ++ b ∷ []) (length line) 0 ≡ b = get_or-append_seam line b [] 0 in
    rw (some, last_place line b, last) refl

closing_by : (front : List ℕ) (b : ℕ) (k : Bool) → (b == 10) ≡ k
    → is_closing (open_line front ++ b ∷ []) ≡ closes front b
closing_by front b true e = rw (last_is (open_line front) b, e, before_last (open_line front) b) refl
closing_by front b false e = rw (last_is (open_line front) b, e) refl

-- a line ends a record where its last byte does
pub closing_last : (front : List ℕ) (b : ℕ) → is_closing (open_line front ++ b ∷ []) ≡ closes front b
closing_last front b = closing_by front b (b == 10) refl

-- what follows gives the same cuts after lines and a begun line
abbrev Agrees : List ℕ → List ℕ → List ℕ → List ℕ → Type 0
Agrees bs lines begun front =
    front ≡ lines ++ begun → open_line front ≡ begun → ends_with_byte 10 begun ≡ false
    → cut_behind front bs ≡ with_front lines (cut_lines (onto begun (lines_of bs)))

abbrev AgreesEverywhere : List ℕ → Type 0
AgreesEverywhere bs = (lines begun front : List ℕ) → Agrees bs lines begun front

agrees_end : (lines begun front : List ℕ) (b : ℕ) (bs : List ℕ) (k : Bool) → closes front b ≡ k → (b == 10) ≡ true
    → AgreesEverywhere bs → Agrees (b ∷ bs) lines begun front
agrees_end lines begun front b bs true k n more e l h =
    let c : is_closing (begun ++ b ∷ []) ≡ true = ap (λ xs. is_closing (xs ++ b ∷ [])) (sym l) ∙ closing_last front b
    ∙ k in
    let j : cut_behind [] bs ≡ cut_lines (lines_of bs) = more [] [] [] refl refl refl
    ∙ front_none (cut_lines (lines_of bs)) in
    rw (cut_closing front b bs k, j, n, onto_end begun b (lines_of bs), c, e, append_assoc lines begun (b ∷ [])) refl
agrees_end lines begun front b bs false k n more e l h =
    let c : is_closing (begun ++ b ∷ []) ≡ false = ap (λ xs. is_closing (xs ++ b ∷ [])) (sym l) ∙ closing_last front b
    ∙ k in
    let j : cut_behind (front ++ b ∷ []) bs ≡ with_front (front ++ b ∷ []) (cut_lines (lines_of bs)) =
    more (front ++ b ∷ []) [] (front ++ b ∷ []) (sym (append-nil (front ++ b ∷ []))) (open_line_end front b n) refl in
    rw (cut_open front b bs k, j, n, onto_end begun b (lines_of bs), c, e, append_assoc lines begun (b ∷ []))
    (sym (front_both lines (begun ++ b ∷ []) (cut_lines (lines_of bs))))

agrees_byte : (lines begun front : List ℕ) (b : ℕ) (bs : List ℕ) (k : Bool) → (b == 10) ≡ k → AgreesEverywhere bs
    → Agrees (b ∷ bs) lines begun front
agrees_byte lines begun front b bs true n more e l h =
    agrees_end lines begun front b bs (closes front b) refl n more e l h
agrees_byte lines begun front b bs false n more e l h =
    let j : cut_behind (front ++ b ∷ []) bs ≡ with_front lines (cut_lines (onto (begun ++ b ∷ []) (lines_of bs))) =
    more lines (begun ++ b ∷ []) (front ++ b ∷ []) (rw e (append_assoc lines begun (b ∷ [])))
    (open_line_more front b n ∙ ap (λ xs. xs ++ b ∷ []) l) (last_is begun b ∙ n) in
    rw (n, onto_more begun b (lines_of bs)) j

agrees : (bs lines begun front : List ℕ) → Agrees bs lines begun front
agrees [] lines [] front e l h = rw e refl
agrees [] lines (x ∷ xs) front e l h = rw (e, h, append-nil (x ∷ xs)) refl
agrees (b ∷ bs) lines begun front e l h = agrees_byte lines begun front b bs (b == 10) refl (agrees bs) e l h

-- the cuts of the bytes are those of the lines
pub cuts_are : (bytes : List ℕ) → cut_behind [] bytes ≡ cut_of bytes
cuts_are bytes = agrees bytes [] [] [] refl refl refl ∙ front_none (cut_of bytes)

-- cuts, and what follows their rest
abbrev pub followed : Cut → List ℕ → Cut
followed cut bytes = record {
  whole = cut.whole ++ (cut_behind cut.rest bytes).whole;
  rest = (cut_behind cut.rest bytes).rest;
}

behind_both_by : (front : List ℕ) (b : ℕ) (xs ys : List ℕ) (k : Bool) → closes front b ≡ k
    → cut_behind [] (xs ++ ys) ≡ followed (cut_behind [] xs) ys
    → cut_behind (front ++ b ∷ []) (xs ++ ys) ≡ followed (cut_behind (front ++ b ∷ []) xs) ys
    → cut_behind front (b ∷ (xs ++ ys)) ≡ followed (cut_behind front (b ∷ xs)) ys
behind_both_by front b xs ys true k whole open_yet =
    rw (cut_closing front b (xs ++ ys) k, cut_closing front b xs k) (ap (with_first (front ++ b ∷ [])) whole)
behind_both_by front b xs ys false k whole open_yet = rw (cut_open front b (xs ++ ys) k, cut_open front b xs k) open_yet

behind_both : (front xs ys : List ℕ) → cut_behind front (xs ++ ys) ≡ followed (cut_behind front xs) ys
behind_both front [] ys = refl
behind_both front (b ∷ xs) ys = behind_both_by front b xs ys (closes front b) refl (behind_both [] xs ys)
    (behind_both (front ++ b ∷ []) xs ys)

-- bytes that follow others go on from their rest
pub cuts_follow : (xs ys : List ℕ) → cut_of (xs ++ ys) ≡ followed (cut_of xs) ys
cuts_follow xs ys = sym (cuts_are (xs ++ ys)) ∙ behind_both [] xs ys ∙ ap (λ cut. followed cut ys) (cuts_are xs)
