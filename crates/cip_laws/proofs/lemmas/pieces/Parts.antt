-- Each closed record alone is cut as one, and records with the same closing are cut alike.
use Rattle.std.proofs.Common.{◌≡◌, ◌++◌, ◌&&◌, ℕ, List, [], ◌∷◌, Bool, true, false, refl, sym, ◌∙◌, ap, subst, append_assoc, append-nil}
use Rattle.std.specs.List.{AllByRecursion, concat}
use Rattle.std.proofs.Math.Bool.{and-false}
use Rattle.cip_text.specs.Bodies.{body_lines, closing_lines, body, closing}
use Rattle.cip_text.specs.Kinds.{is_terminator}
use Rattle.cip_text.specs.Lines.{line_feed, lines_of, ends_with_byte, content_of}
use Rattle.cip_text.proofs.lemmas.Ended.{own_lines, closing_ended}
use Rattle.cip_text.proofs.lemmas.Ends as texts
use Rattle.cip_frame.specs.Following.{closes, cut_behind}
use Rattle.cip_frame.specs.Records.{Cut, joined_to, with_front, is_closing, cut_lines, cut_of}
use Rattle.cip_frame.proofs.lemmas.Cutting.{cut_closing, cut_open, front_none, front_both, followed, cuts_are, cuts_follow}
use Rattle.cip_laws.proofs.lemmas.pieces.Joining.{joined, cuts_join}

abbrev pub cut_as : List (List ℕ) → List ℕ → Cut
cut_as whole rest = record { whole = whole; rest = rest }

-- the bytes are one closed record
abbrev pub IsOne : List ℕ → Type 0
IsOne bytes = cut_of bytes ≡ cut_as (bytes ∷ []) []

-- no record is closed in the bytes
abbrev pub IsOpen : List ℕ → Type 0
IsOpen bytes = cut_of bytes ≡ cut_as [] bytes

-- the parts of a stream

pub record ArePart (cut : Cut) : Type 0 where
  pub ones : AllByRecursion IsOne cut.whole
  pub rest : IsOpen cut.rest

one_more : (front : List ℕ) (b : ℕ) → IsOpen front → cut_of (front ++ b ∷ []) ≡ cut_behind front (b ∷ [])
one_more front b o = cuts_follow front (b ∷ []) ∙ ap (λ cut. followed cut (b ∷ [])) o

parts_by : (front : List ℕ) (b : ℕ) (bs : List ℕ) (k : Bool) → closes front b ≡ k → IsOpen front
    → ArePart (cut_behind [] bs) → (IsOpen (front ++ b ∷ []) → ArePart (cut_behind (front ++ b ∷ []) bs))
    → ArePart (cut_behind front (b ∷ bs))
parts_by front b bs true k o closed still = rw (cut_closing front b bs k) (record {
  ones = (one_more front b o ∙ cut_closing front b [] k, closed.ones);
  rest = closed.rest;
})
parts_by front b bs false k o closed still =
    rw (cut_open front b bs k) (still (one_more front b o ∙ cut_open front b [] k))

parts_behind : (front bs : List ℕ) → IsOpen front → ArePart (cut_behind front bs)
parts_behind front [] o = record { ones = tt; rest = o }
parts_behind front (b ∷ bs) o =
    parts_by front b bs (closes front b) refl o (parts_behind [] bs refl) (parts_behind (front ++ b ∷ []) bs)

pub parts_of : (bytes : List ℕ) → ArePart (cut_of bytes)
parts_of bytes = subst ArePart (cuts_are bytes) (parts_behind [] bytes refl)

-- parts that are put together

one_before : (part bytes : List ℕ) → IsOne part
    → cut_of (part ++ bytes) ≡ cut_as (part ∷ (cut_of bytes).whole) (cut_of bytes).rest
one_before part bytes one = cuts_follow part bytes ∙ ap (λ cut. followed cut bytes) one
    ∙ ap (λ (cut : Cut). cut_as (part ∷ cut.whole) cut.rest) (cuts_are bytes)

pub cuts_of_all : (parts : List (List ℕ)) (rest : List ℕ) → AllByRecursion IsOne parts → IsOpen rest
    → cut_of (concat parts ++ rest) ≡ cut_as parts rest
cuts_of_all [] rest ones o = o
cuts_of_all (part ∷ parts) rest ones o =
    ap cut_of (append_assoc part (concat parts) rest) ∙ one_before part (concat parts ++ rest) ones.0
    ∙ ap (λ (cut : Cut). cut_as (part ∷ cut.whole) cut.rest) (cuts_of_all parts rest ones.1 o)

-- a record is cut in its closing alone

abbrev CutByClosing : List (List ℕ) → Type 0
CutByClosing lines = cut_lines lines ≡ with_front (concat (body_lines lines)) (cut_lines (closing_lines lines))

closing_by : (line : List ℕ) (lines : List (List ℕ)) (k : Bool) → is_terminator (content_of line) ≡ k
    → CutByClosing lines → CutByClosing (line ∷ lines)
closing_by line lines true k more =
    let body : body_lines (line ∷ lines) ≡ [] = rw k refl in
    let closing : closing_lines (line ∷ lines) ≡ line ∷ lines = rw k refl in
    sym (front_none (cut_lines (line ∷ lines)))
    ∙ ap (λ front. with_front (concat front) (cut_lines (line ∷ lines))) (sym body)
    ∙ ap (λ rest. with_front (concat (body_lines (line ∷ lines))) (cut_lines rest)) (sym closing)
closing_by line lines false k more =
    let closing : is_closing line ≡ false = ap (λ t. ends_with_byte line_feed line && t) k
    ∙ and-false (ends_with_byte line_feed line) in
    rw (closing, k) (ap (with_front line) more
    ∙ front_both line (concat (body_lines lines)) (cut_lines (closing_lines lines)))

lines_by_closing : (lines : List (List ℕ)) → CutByClosing lines
lines_by_closing [] = refl
lines_by_closing (line ∷ lines) =
    closing_by line lines (is_terminator (content_of line)) refl (lines_by_closing lines)

pub cut_by_closing : (bytes : List ℕ) → cut_of bytes ≡ with_front (body bytes) (cut_of (closing bytes))
cut_by_closing bytes = lines_by_closing (lines_of bytes)
    ∙ ap (λ lines. with_front (body bytes) (cut_lines lines))
    (sym (own_lines (closing_lines (lines_of bytes)) (closing_ended (lines_of bytes) (texts.lines_ended bytes))))

-- records with the same closing

record HasOne (whole : List (List ℕ)) (rest : List ℕ) : Type 0 where
  part : List ℕ
  whole_is : whole ≡ part ∷ []
  rest_is : rest ≡ []

one_shape : (front : List ℕ) (whole : List (List ℕ)) (rest bytes : List ℕ)
    → joined_to front whole rest ≡ cut_as (bytes ∷ []) [] → HasOne whole rest
one_shape front [] rest bytes h =
    absurd (let none : [] ≡ bytes ∷ [] = ap (λ (cut : Cut). cut.whole) h in cc)
one_shape front (part ∷ []) rest bytes h =
    record { part = part; whole_is = refl; rest_is = ap (λ (cut : Cut). cut.rest) h }
one_shape front (part ∷ next ∷ parts) rest bytes h =
    absurd (let two : (front ++ part) ∷ next ∷ parts ≡ bytes ∷ [] = ap (λ (cut : Cut). cut.whole) h in cc)

none_shape : (front : List ℕ) (whole : List (List ℕ)) (rest bytes : List ℕ)
    → joined_to front whole rest ≡ cut_as [] bytes → whole ≡ []
none_shape front [] rest bytes h = refl
none_shape front (part ∷ parts) rest bytes h =
    absurd (let some : (front ++ part) ∷ parts ≡ [] = ap (λ (cut : Cut). cut.whole) h in cc)

cut_alike : (old new : List ℕ) → closing new ≡ closing old
    → cut_of new ≡ joined_to (body new) (cut_of (closing old)).whole (cut_of (closing old)).rest
cut_alike old new same = cut_by_closing new ∙ ap (λ c. with_front (body new) (cut_of c)) same

pub one_alike : (old new : List ℕ) → closing new ≡ closing old → IsOne old → IsOne new
one_alike old new same one =
    let shape : HasOne (cut_of (closing old)).whole (cut_of (closing old)).rest =
    one_shape (body old) (cut_of (closing old)).whole (cut_of (closing old)).rest old
    (sym (cut_by_closing old) ∙ one) in
    let cut : cut_of new ≡ cut_as ((body new ++ shape.part) ∷ []) [] =
    cut_alike old new same
    ∙ ap (λ whole. joined_to (body new) whole (cut_of (closing old)).rest) shape.whole_is
    ∙ ap (λ rest. joined_to (body new) (shape.part ∷ []) rest) shape.rest_is in
    let whole : body new ++ shape.part ≡ new =
    sym (append-nil (body new ++ shape.part)) ∙ sym (append-nil ((body new ++ shape.part) ++ []))
    ∙ sym (ap joined cut) ∙ cuts_join new in
    cut ∙ ap (λ bytes. cut_as (bytes ∷ []) []) whole

pub open_alike : (old new : List ℕ) → closing new ≡ closing old → IsOpen old → IsOpen new
open_alike old new same o =
    let none : (cut_of (closing old)).whole ≡ [] =
    none_shape (body old) (cut_of (closing old)).whole (cut_of (closing old)).rest old
    (sym (cut_by_closing old) ∙ o) in
    let cut : cut_of new ≡ cut_as [] (body new ++ (cut_of (closing old)).rest) =
    cut_alike old new same
    ∙ ap (λ whole. joined_to (body new) whole (cut_of (closing old)).rest) none in
    let rest : body new ++ (cut_of (closing old)).rest ≡ new = sym (ap joined cut) ∙ cuts_join new in
    cut ∙ ap (cut_as []) rest
