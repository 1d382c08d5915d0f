-- What a line of a piece does to the cuts.
use Rattle.std.proofs.Common.{◌≡◌, ℕ, List, [], ◌∷◌, ◌++◌, Bool, true, false, not, refl, sym, ◌∙◌, ap, arith, append_assoc, ◌==◌, if◌then◌else◌, ◌≤◌, ◌-◌, length, take, drop}
use Rattle.std.proofs.lemmas.List.{drop-append-le, take_rest}
use Rattle.std.proofs.Math.Seq.{drop-length}
use Rattle.std.specs.List.{list_all, onto_first}
use Rattle.cip_text.specs.Lines.{lines_of, ends_with_byte}
use Rattle.cip_frame.specs.Records.{Cut, with_first, is_closing, open_line}
use Rattle.cip_frame.specs.Following.{closes, cut_behind}
use Rattle.cip_frame.specs.Taking.{is_line}
use Rattle.std.proofs.lemmas.Bool.{and_parts, not-true}
use Rattle.cip_frame.proofs.lemmas.Cutting.{cut_open, open_line_end, open_line_more, last_is, closing_last}

-- the lines of a text are lines of a piece

onto_line : (b : ℕ) (line : List ℕ) → (b == 10) ≡ false → is_line line ≡ true → is_line (b ∷ line) ≡ true
onto_line b [] e h = refl
onto_line b (c ∷ cs) e h = rw e h

onto_lines : (b : ℕ) (lines : List (List ℕ)) → (b == 10) ≡ false → list_all is_line lines ≡ true
    → list_all is_line (onto_first b lines) ≡ true
onto_lines b [] e h = refl
onto_lines b (line ∷ lines) e h =
    let parts = and_parts (is_line line) (list_all is_line lines) h in
    rw (onto_line b line e parts.0) parts.1

are_lines_by : (b : ℕ) (bs : List ℕ) (k : Bool) → (b == 10) ≡ k → list_all is_line (lines_of bs) ≡ true
    → list_all is_line (lines_of (b ∷ bs)) ≡ true
are_lines_by b bs true e more = rw e more
are_lines_by b bs false e more = rw e (onto_lines b (lines_of bs) e more)

are_lines : (bytes : List ℕ) → list_all is_line (lines_of bytes) ≡ true
are_lines [] = refl
are_lines (b ∷ bs) = are_lines_by b bs (b == 10) refl (are_lines bs)

pub first_is_line : (bytes line : List ℕ) (lines : List (List ℕ)) → lines_of bytes ≡ line ∷ lines → is_line line ≡ true
first_is_line bytes line lines h = (and_parts (is_line line) (list_all is_line lines) (rw h at (are_lines bytes))).0

-- the open line with a line after it

open_line_by : (front : List ℕ) (b : ℕ) (k : Bool) → (b == 10) ≡ k
    → open_line (front ++ b ∷ []) ≡ (if ends_with_byte 10 (open_line front ++ b ∷ []) then [] else open_line front ++ b ∷ [])
open_line_by front b true e = rw (last_is (open_line front) b, e) (open_line_end front b e)
open_line_by front b false e = rw (last_is (open_line front) b, e) (open_line_more front b e)

abbrev OpenLine : List ℕ → List ℕ → Type 0
OpenLine front line = open_line (front ++ line)
    ≡ (if ends_with_byte 10 (open_line front ++ line) then [] else open_line front ++ line)

pub open_line_behind : (front line : List ℕ) → is_line line ≡ true → OpenLine front line
open_line_behind front [] h = absurd (grind (arith, h))
open_line_behind front (b ∷ []) h = open_line_by front b (b == 10) refl
open_line_behind front (b ∷ c ∷ cs) h =
    let parts = and_parts (not (b == 10)) (is_line (c ∷ cs)) h in
    let e = open_line_more front b (not-true (b == 10) parts.0) in
    let more : OpenLine (front ++ b ∷ []) (c ∷ cs) = open_line_behind (front ++ b ∷ []) (c ∷ cs) parts.1 in
    rw (append_assoc front (b ∷ []) (c ∷ cs), e, append_assoc (open_line front) (b ∷ []) (c ∷ cs)) at more

-- the place where the open line begins

same_place : (place : ℕ) (front line : List ℕ) → place ≤ length front → drop place front ≡ open_line front
    → drop place (front ++ line) ≡ open_line front ++ line
same_place place front line w e = rw (drop-append-le place front line w, e) refl

last_of_open : (place : ℕ) (front line all : List ℕ) (k : Bool) → all ≡ front ++ line → place ≤ length front
    → drop place front ≡ open_line front
    → ends_with_byte 10 (take (length all - place) (drop place all)) ≡ k → ends_with_byte 10 (open_line front ++ line) ≡ k
last_of_open place front line all k j w e h =
    ap (ends_with_byte 10) (sym (same_place place front line w e) ∙ ap (drop place) (sym j) ∙ sym (take_rest all place)) ∙ h

pub line_kept : (place : ℕ) (front line all : List ℕ) → all ≡ front ++ line → is_line line ≡ true
    → place ≤ length front → drop place front ≡ open_line front
    → ends_with_byte 10 (take (length all - place) (drop place all)) ≡ false
    → drop place (front ++ line) ≡ open_line (front ++ line)
line_kept place front line all j h w e k =
    same_place place front line w e ∙ sym (rw (last_of_open place front line all false j w e k) at
    (open_line_behind front line h))

pub line_begun : (place : ℕ) (front line all : List ℕ) → all ≡ front ++ line → is_line line ≡ true
    → place ≤ length front → drop place front ≡ open_line front
    → ends_with_byte 10 (take (length all - place) (drop place all)) ≡ true
    → drop (length (front ++ line)) (front ++ line) ≡ open_line (front ++ line)
line_begun place front line all j h w e k =
    drop-length (front ++ line) ∙ sym (rw (last_of_open place front line all true j w e k) at
    (open_line_behind front line h))

-- the cuts of a line and of what follows it

abbrev cuts_after : List ℕ → List ℕ → List ℕ → Cut
cuts_after open_one whole behind = if is_closing open_one then with_first whole (cut_behind [] behind)
    else cut_behind whole behind

open_byte : (front : List ℕ) (b : ℕ) → (b == 10) ≡ false → closes front b ≡ false
open_byte front b e = rw e refl

cut_line : (front line behind : List ℕ) → is_line line ≡ true
    → cut_behind front (line ++ behind) ≡ cuts_after (open_line front ++ line) (front ++ line) behind
cut_line front [] behind h = absurd (grind (arith, h))
cut_line front (b ∷ []) behind h = rw (closing_last front b) refl
cut_line front (b ∷ c ∷ cs) behind h =
    let parts = and_parts (not (b == 10)) (is_line (c ∷ cs)) h in
    let n = not-true (b == 10) parts.0 in
    let same : open_line (front ++ b ∷ []) ++ (c ∷ cs) ≡ open_line front ++ (b ∷ c ∷ cs) =
    ap (λ xs. xs ++ (c ∷ cs)) (open_line_more front b n) ∙ append_assoc (open_line front) (b ∷ []) (c ∷ cs) in
    cut_open front b (c ∷ cs ++ behind) (open_byte front b n)
    ∙ cut_line (front ++ b ∷ []) (c ∷ cs) behind parts.1
    ∙ ap (λ xs. cuts_after xs ((front ++ b ∷ []) ++ (c ∷ cs)) behind) same
    ∙ ap (λ xs. cuts_after (open_line front ++ (b ∷ c ∷ cs)) xs behind) (append_assoc front (b ∷ []) (c ∷ cs))

-- a line that ends a record, and one that doesn't

pub line_closing : (front line behind : List ℕ) → is_line line ≡ true → is_closing (open_line front ++ line) ≡ true
    → cut_behind front (line ++ behind) ≡ with_first (front ++ line) (cut_behind [] behind)
line_closing front line behind h e = cut_line front line behind h ∙ (rw e refl)

pub line_open : (front line behind : List ℕ) → is_line line ≡ true → is_closing (open_line front ++ line) ≡ false
    → cut_behind front (line ++ behind) ≡ cut_behind (front ++ line) behind
line_open front line behind h e = cut_line front line behind h ∙ (rw e refl)
