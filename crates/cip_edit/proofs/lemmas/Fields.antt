-- What is read in the columns of a line that was written anew.
use Rattle.std.proofs.Common.{◌≡◌, ◌≤◌, ◌<◌, ◌+◌, ◌-◌, ◌++◌, ℕ, zero, suc, List, [], ◌∷◌, Bool, true, false, not, ◌==◌, nat_lt, refl, sym, ◌∙◌, ap, arith, length, take, drop, replicate, reverse}
use Rattle.std.specs.List.{list_all}
use Rattle.std.proofs.lemmas.Bool.{and_parts, and_from, not-true, ltb-true}
use Rattle.std.proofs.lemmas.List.{length-append, length-replicate, length-drop, drop_at, take_at, drop-drop, drop-append-le, take-append-le, append_assoc, reverse-append, reverse-reverse, replicate_more}
use Rattle.std.proofs.lemmas.List.Folds.{list_all-append}
use Rattle.cip_text.specs.Columns.{without_spaces_before, trim_end_spaces, field}
use Rattle.cip_text.specs.Writing.{right}
use Rattle.cip_edit.specs.Columns.{filled, with_columns, is_printed, Fits}

abbrev pub trimmed : List ℕ → List ℕ
trimmed text = trim_end_spaces (without_spaces_before text)

-- lengths

pub filled_long : (columns : ℕ) (line : List ℕ) → length (filled columns line) ≡ columns
filled_long zero line = refl
filled_long (suc columns) [] = ap suc (filled_long columns [])
filled_long (suc columns) (b ∷ bs) = ap suc (filled_long columns bs)

pub right_long : (width : ℕ) (text : List ℕ) → length text ≤ width → length (right width text) ≡ width
unfolding right
right_long width text few =
    omega (
      arith,
      length-append (replicate (width - length text) 32) text,
      length-replicate {A = ℕ}
          (width - length text) 32,
      few,
    )

-- spaces

pub spaces_before : (spaces : ℕ) (text : List ℕ)
    → without_spaces_before (replicate spaces 32 ++ text) ≡ without_spaces_before text
spaces_before zero text = refl
spaces_before (suc spaces) text = spaces_before spaces text

only_spaces : (spaces : ℕ) → without_spaces_before (replicate spaces 32) ≡ []
only_spaces zero = refl
only_spaces (suc spaces) = only_spaces spaces

reverse_spaces : (spaces : ℕ) → reverse {A = ℕ} (replicate spaces 32) ≡ replicate spaces 32
reverse_spaces zero = refl
reverse_spaces (suc spaces) =
    reverse-append (32 ∷ []) (replicate spaces 32) ∙ ap (λ text. text ++ 32 ∷ []) (reverse_spaces spaces)
    ∙ replicate_more spaces 32 ∙ ap (λ n. replicate n 32) (let e : spaces + 1 ≡ suc spaces = omega arith in e)

spaces_behind : (text : List ℕ) (spaces : ℕ)
    → trim_end_spaces (text ++ replicate spaces 32) ≡ trim_end_spaces text
spaces_behind text spaces =
    ap (λ back. reverse (without_spaces_before back))
    (reverse-append text (replicate spaces 32) ∙ ap (λ back. back ++ reverse text) (reverse_spaces spaces))
    ∙ ap reverse (spaces_before spaces (reverse text))

spaces_byte : (b : ℕ) (bs : List ℕ) (spaces : ℕ) (k : Bool) → (b == 32) ≡ k
    → trimmed (bs ++ replicate spaces 32) ≡ trimmed bs
    → trimmed ((b ∷ bs) ++ replicate spaces 32) ≡ trimmed (b ∷ bs)
spaces_byte b bs spaces true e more = rw e more
spaces_byte b bs spaces false e more = rw e (spaces_behind (b ∷ bs) spaces)

pub trimmed_spaces : (text : List ℕ) (spaces : ℕ) → trimmed (text ++ replicate spaces 32) ≡ trimmed text
trimmed_spaces [] spaces = ap trim_end_spaces (only_spaces spaces)
trimmed_spaces (b ∷ bs) spaces = spaces_byte b bs spaces (b == 32) refl (trimmed_spaces bs spaces)

-- a text without spaces

abbrev is_solid : List ℕ → Bool
is_solid text = list_all (λ b. not (b == 32)) text

printed_byte : (b : ℕ) → nat_lt 32 b ≡ true → not (b == 32) ≡ true
printed_byte b h = grind (arith, ltb-true 32 b h)

solid : (text : List ℕ) → is_printed text ≡ true → is_solid text ≡ true
solid [] h = refl
solid (b ∷ bs) h =
    let each = and_parts (nat_lt 32 b) (is_printed bs) h in
    and_from (not (b == 32)) (is_solid bs) (printed_byte b each.0) (solid bs each.1)

solid_reverse : (text : List ℕ) → is_solid text ≡ true → is_solid (reverse text) ≡ true
solid_reverse [] h = refl
solid_reverse (b ∷ bs) h =
    let each = and_parts (not (b == 32)) (is_solid bs) h in
    ap is_solid (reverse-append (b ∷ []) bs)
    ∙ list_all-append (λ b. not (b == 32)) (reverse bs) (b ∷ [])
    ∙ and_from (is_solid (reverse bs)) (is_solid (b ∷ [])) (solid_reverse bs each.1) (rw each.0 refl)

solid_before : (text : List ℕ) → is_solid text ≡ true → without_spaces_before text ≡ text
solid_before [] h = refl
solid_before (b ∷ bs) h =
    rw (not-true (b == 32) (and_parts (not (b == 32)) (is_solid bs) h).0) refl

solid_behind : (text : List ℕ) → is_solid text ≡ true → trim_end_spaces text ≡ text
solid_behind text h = ap reverse (solid_before (reverse text) (solid_reverse text h)) ∙ reverse-reverse text

trimmed_right : (spaces : ℕ) (text : List ℕ) → is_printed text ≡ true → trimmed (replicate spaces 32 ++ text) ≡ text
trimmed_right spaces text h =
    ap trim_end_spaces (spaces_before spaces text ∙ solid_before text (solid text h))
    ∙ solid_behind text (solid text h)

-- columns before those that are written

abbrev nothing : List ℕ
nothing = []

none_cut : (before width : ℕ) → take width (drop before nothing) ≡ []
none_cut zero zero = refl
none_cut zero (suc width) = refl
none_cut (suc before) zero = refl
none_cut (suc before) (suc width) = refl

spaces_cut : (columns before width : ℕ) → before + width ≤ columns
    → take width (drop before (filled columns [])) ≡ replicate width 32
spaces_cut columns before zero within = refl
spaces_cut zero before (suc width) within = absurd (omega (arith, within))
spaces_cut (suc columns) zero (suc width) within =
    ap (λ text. 32 ∷ text) (spaces_cut columns zero width (omega (arith, within)))
spaces_cut (suc columns) (suc before) (suc width) within =
    spaces_cut columns before (suc width) (omega (arith, within))

abbrev IsFilled : List ℕ → List ℕ → Type 0
IsFilled whole part = (spaces : ℕ) × (whole ≡ part ++ replicate spaces 32)

filled_cut : (columns before width : ℕ) (line : List ℕ) → before + width ≤ columns
    → IsFilled (take width (drop before (filled columns line))) (take width (drop before line))
filled_cut columns before zero line within = (0, refl)
filled_cut zero before (suc width) line within = absurd (omega (arith, within))
filled_cut (suc columns) before (suc width) [] within = (
  suc width,
  spaces_cut (suc columns) before (suc width) within
      ∙ sym (ap (λ text. text ++ replicate (suc width) 32) (none_cut before (suc width))),
)
filled_cut (suc columns) zero (suc width) (b ∷ bs) within =
    let more = filled_cut columns zero width bs (omega (arith, within)) in
    (more.0, ap (λ text. b ∷ text) more.1)
filled_cut (suc columns) (suc before) (suc width) (b ∷ bs) within =
    filled_cut columns before (suc width) bs (omega (arith, within))

-- what is read of a line with a text written into some columns

pub field_written : (first last : ℕ) (text line : List ℕ) → Fits first last text
    → field first last (with_columns first last text line) ≡ text
unfolding with_columns right
field_written first last text line fits =
    let width = last + 1 - first in
    let long : length (right width text) ≡ width = right_long width text (omega (arith, fits.few)) in
    ap trimmed
    (ap (take width) (drop_at (filled (first - 1) line) (right width text ++ drop last line) (first - 1)
    (filled_long (first - 1) line))
    ∙ take_at (right width text) (drop last line) width long)
    ∙ trimmed_right (width - length text) text fits.printed

-- a field before them
pub field_before : (first last from to : ℕ) (text line : List ℕ) → 1 ≤ from → from ≤ to → to < first
    → field from to (with_columns first last text line) ≡ field from to line
unfolding with_columns right
field_before first last from to text line some within less =
    let width = to + 1 - from in
    let front = filled (first - 1) line in
    let behind = right (last + 1 - first) text ++ drop last line in
    let long : length front ≡ first - 1 = filled_long (first - 1) line in
    let far : length (drop (from - 1) front) ≡ first - 1 - (from - 1) = length-drop (from - 1) front
    ∙ ap (λ n. n - (from - 1)) long in
    let cut = filled_cut (first - 1) (from - 1) width line (omega (arith, some, within, less)) in
    ap trimmed
    (ap (take width) (drop-append-le (from - 1) front behind (omega (arith, long, within, less)))
    ∙ take-append-le width (drop (from - 1) front) behind (omega (arith, far, within, less, some))
    ∙ cut.1)
    ∙ trimmed_spaces (take width (drop (from - 1) line)) cut.0

-- a field after them
pub field_behind : (first last from to : ℕ) (text line : List ℕ) → Fits first last text → last < from
    → field from to (with_columns first last text line) ≡ field from to line
unfolding with_columns right
field_behind first last from to text line fits less =
    let width = last + 1 - first in
    let long : length (right width text) ≡ width = right_long width text (omega (arith, fits.few)) in
    let front : length (filled (first - 1) line) ≡ first - 1 = filled_long (first - 1) line in
    let more : from - 1 ≡ last + (from - 1 - last) = omega (arith, less) in
    let whole : length (filled (first - 1) line ++ right width text) ≡ last =
    length-append (filled (first - 1) line) (right width text)
    ∙ omega (arith, front, long, fits.few, fits.begins, fits.some) in
    ap (λ rest. trimmed (take (to + 1 - from) rest))
    (ap (λ n. drop n (with_columns first last text line)) more
    ∙ sym (drop-drop (from - 1 - last) last (with_columns first last text line))
    ∙ ap (drop (from - 1 - last))
    (ap (drop last) (sym (append_assoc (filled (first - 1) line) (right width text) (drop last line)))
    ∙ drop_at (filled (first - 1) line ++ right width text) (drop last line) last whole)
    ∙ drop-drop (from - 1 - last) last line
    ∙ ap (λ n. drop n line) (sym more))

-- a line with a text in some columns is as long as before, or ends with the last of them
pub written_long : (first last : ℕ) (text line : List ℕ) → Fits first last text
    → length (with_columns first last text line) ≡ last + (length line - last)
unfolding with_columns right
written_long first last text line fits =
    let width : ℕ = last + 1 - first in
    let long : length (right width text) ≡ width = right_long width text (omega (arith, fits.few)) in
    omega (
      arith,
      length-append (filled (first - 1) line) (right width text ++ drop last line),
      length-append
          (right width text) (drop last line),
      filled_long (first - 1) line,
      long,
      length-drop last line,
      fits.few,
      fits.begins,
      fits.some,
    )
