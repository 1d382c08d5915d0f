-- Which columns stay where a text is written.
use Rattle.std.proofs.Common.{◌≡◌, ◌≤◌, ◌<◌, ◌+◌, ◌-◌, ◌++◌, ℕ, zero, suc, List, [], ◌∷◌, refl, sym, ◌∙◌, ap, arith, length, drop, get_or, append_assoc, length-append}
use Rattle.std.proofs.lemmas.List.{get_or-drop, get_or_append_left, get_or-append-add}
use Rattle.cip_text.specs.Writing.{right}
use Rattle.cip_edit.specs.Columns.{filled, with_columns, Fits}
use Rattle.cip_edit.specs.EditLaws.{TextsAreWritten}
use Rattle.cip_edit.proofs.lemmas.Fields.{filled_long, right_long, field_written}

filled_column : (columns column : ℕ) (line : List ℕ) → column < columns
    → get_or (filled columns line) column 32 ≡ get_or line column 32
filled_column zero column line lt = absurd (omega (arith, lt))
filled_column (suc columns) zero [] lt = refl
filled_column (suc columns) zero (b ∷ bs) lt = refl
filled_column (suc columns) (suc column) [] lt = filled_column columns column [] (omega (arith, lt))
filled_column (suc columns) (suc column) (b ∷ bs) lt = filled_column columns column bs (omega (arith, lt))

column_before : (first last : ℕ) (text line : List ℕ) (column : ℕ) → column + 1 < first
    → get_or (with_columns first last text line) column 32 ≡ get_or line column 32
unfolding with_columns right
column_before first last text line column less =
    get_or_append_left (filled (first - 1) line) (right (last + 1 - first) text ++ drop last line) 32 column
    (omega (arith, filled_long (first - 1) line, less))
    ∙ filled_column (first - 1) column line (omega (arith, less))

column_behind : (first last : ℕ) (text line : List ℕ) (column : ℕ) → Fits first last text → last ≤ column
    → get_or (with_columns first last text line) column 32 ≡ get_or line column 32
unfolding with_columns right
column_behind first last text line column fits le =
    let front : List ℕ = filled (first - 1) line ++ right (last + 1 - first) text in
    let middle : length (right (last + 1 - first) text) ≡ last + 1 - first =
    right_long (last + 1 - first) text (omega (arith, fits.few)) in
    let long : length front ≡ last =
    length-append (filled (first - 1) line) (right (last + 1 - first) text)
    ∙ omega (arith, middle, filled_long (first - 1) line, fits.few, fits.begins, fits.some) in
    let place : column ≡ length front + (column - last) = omega (arith, le, long) in
    let back : last + (column - last) ≡ column = omega (arith, le) in
    ap (λ whole. get_or whole column 32)
    (sym (append_assoc (filled (first - 1) line) (right (last + 1 - first) text) (drop last line)))
    ∙ ap (λ n. get_or (front ++ drop last line) n 32) place
    ∙ get_or-append-add front (drop last line) (column - last) 32
    ∙ get_or-drop last line (column - last) 32
    ∙ ap (λ n. get_or line n 32) back

pub texts_are_written : TextsAreWritten
texts_are_written first last text line fits = record {
  read = field_written first last text line fits;
  before = λ column less. column_before first last text line column less;
  behind = λ column le. column_behind first last text line column fits le;
}
