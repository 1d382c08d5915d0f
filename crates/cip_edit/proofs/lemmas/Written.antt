-- A line in which a text is written is the content of a line, where the line was.
use Rattle.std.proofs.Common.{◌≡◌, ◌≤◌, ◌<◌, ◌+◌, ◌-◌, ◌++◌, ℕ, zero, suc, List, [], ◌∷◌, Bool, true, false, ◌==◌, nat_lt, refl, sym, ◌∙◌, ap, arith, length, take, drop, replicate, inl, inr, append-nil}
use Rattle.std.specs.List.{list_any}
use Rattle.std.proofs.lemmas.Bool.{and_parts, or_parts, or_from, cases_lt}
use Rattle.std.proofs.lemmas.Bool.Decides.{nat_tests}
use Rattle.std.proofs.lemmas.List.{length-append, length-drop, drop_all, take-append-drop}
use Rattle.std.proofs.lemmas.List.Folds.{list_any-append}
use Rattle.cip_text.specs.Lines.{ends_with_byte}
use Rattle.cip_text.specs.Laws.{has_line_feed}
use Rattle.cip_text.proofs.lemmas.LastBytes.{last_behind, last_lacks}
use Rattle.cip_text.specs.Writing.{right}
use Rattle.cip_edit.specs.Columns.{filled, with_columns, is_printed, Fits}
use Rattle.cip_edit.specs.EditedRows.{IsContentFor}
use Rattle.cip_edit.proofs.lemmas.Fields.{written_long}

-- bytes that are printed are neither LF nor CR

abbrev holds : ℕ → List ℕ → Bool
holds c text = list_any (λ b. b == c) text

printed_byte : (b c : ℕ) → c ≤ 32 → nat_lt 32 b ≡ true → (b == c) ≡ false
printed_byte b c low h = grind (arith, nat_tests)

printed_lacks : (c : ℕ) (text : List ℕ) → c ≤ 32 → is_printed text ≡ true → holds c text ≡ false
printed_lacks c [] low h = refl
printed_lacks c (b ∷ bs) low h =
    let each = and_parts (nat_lt 32 b) (is_printed bs) h in
    or_from (b == c) (holds c bs) (printed_byte b c low each.0) (printed_lacks c bs low each.1)

spaces_lack : (spaces : ℕ) → holds 10 (replicate spaces 32) ≡ false
spaces_lack zero = refl
spaces_lack (suc spaces) = spaces_lack spaces

filled_lacks : (columns : ℕ) (line : List ℕ) → has_line_feed line ≡ false → has_line_feed (filled columns line) ≡ false
filled_lacks zero line h = refl
filled_lacks (suc columns) [] h = filled_lacks columns [] refl
filled_lacks (suc columns) (b ∷ bs) h =
    let each = or_parts (b == 10) (has_line_feed bs) h in
    or_from (b == 10) (has_line_feed (filled columns bs)) each.0 (filled_lacks columns bs each.1)

drop_lacks : (columns : ℕ) (line : List ℕ) → has_line_feed line ≡ false → has_line_feed (drop columns line) ≡ false
drop_lacks zero line h = h
drop_lacks (suc columns) [] h = refl
drop_lacks (suc columns) (b ∷ bs) h = drop_lacks columns bs (or_parts (b == 10) (has_line_feed bs) h).1

both_lack : (front behind : List ℕ) → has_line_feed front ≡ false → has_line_feed behind ≡ false
    → has_line_feed (front ++ behind) ≡ false
both_lack front behind f b =
    list_any-append (λ b. b == 10) front behind ∙ or_from (has_line_feed front) (has_line_feed behind) f b

feeds : (first last : ℕ) (text line : List ℕ) → Fits first last text → has_line_feed line ≡ false
    → has_line_feed (with_columns first last text line) ≡ false
unfolding with_columns right
feeds first last text line fits h =
    let width = last + 1 - first in
    both_lack (filled (first - 1) line) (right width text ++ drop last line) (filled_lacks (first - 1) line h)
    (both_lack (right width text) (drop last line)
    (both_lack (replicate (width - length text) 32) text (spaces_lack (width - length text))
    (printed_lacks 10 text (omega arith) fits.printed))
    (drop_lacks last line h))

-- the last byte is that of the text, or that of the line

returns : (first last : ℕ) (text line : List ℕ) → Fits first last text → ends_with_byte 13 line ≡ false
    → ends_with_byte 13 (with_columns first last text line) ≡ false
unfolding with_columns right
returns first last text line fits h =
    let width : ℕ = last + 1 - first in
    let middle : List ℕ = right width text in
    let spaces : List ℕ = replicate (width - length text) 32 in
    let long : length middle ≡ length spaces + length text = length-append spaces text in
    let some : 0 < length middle = omega (arith, long, fits.some) in
    elim (cases_lt last (length line)) [
      | inl more ↦
          let behind : 0 < length (drop last line) = omega (arith, length-drop last line, more) in
          last_behind 13 (filled (first - 1) line) (middle ++ drop last line)
          (omega (arith, length-append middle (drop last line), behind))
          ∙ last_behind 13 middle (drop last line) behind
          ∙ sym (last_behind 13 (take last line) (drop last line) behind)
          ∙ ap (ends_with_byte 13) (take-append-drop last line) ∙ h
      | inr none ↦
          last_behind 13 (filled (first - 1) line) (middle ++ drop last line)
          (omega (arith, length-append middle (drop last line), some))
          ∙ ap (λ rest. ends_with_byte 13 (middle ++ rest)) (drop_all last line none)
          ∙ ap (ends_with_byte 13) (append-nil middle)
          ∙ last_behind 13 spaces text fits.some
          ∙ last_lacks 13 text (printed_lacks 13 text (omega arith) fits.printed)
    ]

pub written_content : (first last : ℕ) (text line : List ℕ) → Fits first last text → last ≤ 30
    → IsContentFor line (with_columns first last text line)
written_content first last text line fits short = record {
  lines = feeds first last text line fits;
  returns = returns first last text line fits;
  few = omega (arith, written_long first last text line fits, short);
}

pub same_content : (line : List ℕ) → IsContentFor line line
same_content line = record { lines = λ h. h; returns = λ h. h; few = omega arith }
