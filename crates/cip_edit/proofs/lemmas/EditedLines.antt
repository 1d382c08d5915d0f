-- The lines of a record that is edited.
use Rattle.std.proofs.Common.{◌≡◌, ◌<◌, ◌+◌, ◌++◌, ℕ, suc, List, [], ◌∷◌, Bool, true, false, not, ◌&&◌, nat_lt, Some}
use Rattle.std.proofs.Common.{refl, sym, ◌∙◌, ap, arith, length, map, inl, inr, append-nil, length-append}
use Rattle.std.specs.List.{concat}
use Rattle.std.specs.Prelude.{slice_get}
use Rattle.std.proofs.lemmas.Bool.{and_parts, and_from, or_left, lt-ltb}
use Rattle.std.proofs.lemmas.List.Folds.{concat-append}
use Rattle.std.proofs.Math.Bool.{or-true}
use Rattle.cip_text.specs.Lines.{lines_of, ends_with_byte, content_of, end_of}
use Rattle.cip_text.specs.Laws.{has_line_feed, is_ended, are_ended}
use Rattle.cip_text.specs.Kinds.{is_terminator}
use Rattle.cip_text.specs.Bodies.{body_lines, closing_lines, body_contents, closing}
use Rattle.cip_text.proofs.lemmas.Ends as texts
use Rattle.cip_text.proofs.lemmas.Ended.{end_as, own_lines, others}
use Rattle.cip_text.proofs.lemmas.LastBytes.{content_of_open}
use Rattle.cip_item.proofs.lemmas.ItemLines.{no_terminators}
use Rattle.cip_item.proofs.lemmas.Made.{body_before, body_no_terminators, closing_behind}
use Rattle.cip_item.proofs.lemmas.NoLabels.{both}
use Rattle.cip_edit.specs.Edits.{Edit, edited_lines, edited_contents, edited}
use Rattle.cip_edit.specs.EditedRows.{IsRow, KeepsKind}
use Rattle.cip_edit.specs.EditLaws.{KeepsKinds}
use Rattle.cip_edit.proofs.lemmas.Contents.{IsLineOf, ended_line, open_line, with_end}
use Rattle.cip_edit.proofs.lemmas.RowKinds.{row_plain}

-- line by line

pub record Keeps (old new : List ℕ) : Type 0 where
  pub lines : has_line_feed old ≡ false → has_line_feed new ≡ false
  pub returns : ends_with_byte 13 old ≡ false → ends_with_byte 13 new ≡ false
  pub some : 0 < length old → 0 < length new
  pub terminator : is_terminator new ≡ is_terminator old

row_some : (content : List ℕ) → IsRow content → 0 < length content
row_some [] row = absurd (let e = row.filled in cc)
row_some (b ∷ bs) row = omega arith

pub keeps : (old new : List ℕ) → KeepsKind old new → Keeps old new
keeps old new (inl same) = record {
  lines = λ h. ap has_line_feed same ∙ h;
  returns = λ h. ap (ends_with_byte 13) same ∙ h;
  some = λ h. rw same h;
  terminator = ap is_terminator same;
}
keeps old new (inr row) = record {
  lines = row.fits.lines;
  returns = row.fits.returns;
  some = λ h. row_some new row.becomes;
  terminator = (row_plain new row.becomes).terminator ∙ sym (row_plain old row.was).terminator;
}

-- an edit keeps the kinds of all lines from a number on
abbrev pub KeepsAll : Edit → ℕ → List (List ℕ) → Type 0
KeepsAll edit number [] = Unit {0}
KeepsAll edit number (content ∷ contents) =
    KeepsKind content (edit number content) × KeepsAll edit (number + 1) contents

keeps_from : (edit : Edit) (number : ℕ) (contents : List (List ℕ))
    → ((k : ℕ) (content : List ℕ) → slice_get contents k ≡ Some content
    → KeepsKind content (edit (number + k) content)) → KeepsAll edit number contents
keeps_from edit number [] each = tt
keeps_from edit number (content ∷ contents) each =
    let first : number + 0 ≡ number = omega arith in (
      rw first at (each 0 content refl),
      keeps_from edit (number + 1) contents (λ k other is.
          let next : number + suc k ≡ number + 1 + k = omega arith in
          rw next at (each (suc k) other is)),
    )

pub keeps_all : (edit : Edit) (contents : List (List ℕ)) → KeepsKinds edit contents → KeepsAll edit 0 contents
keeps_all edit contents each = keeps_from edit 0 contents (λ k content is.
    let same : 0 + k ≡ k = omega arith in rw same (each k content is))

pub record IsKept (line new content : List ℕ) : Type 0 where
  pub is : content_of new ≡ content
  pub ended : is_ended line ≡ true → is_ended new ≡ true
  pub last : are_ended (new ∷ []) ≡ true

open_last : (line : List ℕ) → 0 < length line → has_line_feed line ≡ false → are_ended (line ∷ []) ≡ true
open_last line some free =
    rw (lt-ltb 0 (length line) some, free) (or-true (is_ended line))

kept_by : (line new : List ℕ) (k : Bool) → is_ended line ≡ k → are_ended (line ∷ []) ≡ true
    → Keeps (content_of line) new → IsKept line (new ++ end_of line) new
kept_by line new true e h keeps =
    let is = ended_line line e in
    let whole : IsLineOf new (new ++ end_as is.0) =
    with_end is.0 new (keeps.lines is.1.free) (λ plain. keeps.returns (is.1.plain plain)) in
    rw is.1.end (record {
      is = whole.is;
      ended = λ _. whole.ended;
      last = or_left (is_ended (new ++ end_as is.0))
          (nat_lt 0 (length (new ++ end_as is.0)) && not (has_line_feed (new ++ end_as is.0))) whole.ended;
    })
kept_by line new false e h keeps =
    let is = open_line line e h in
    let free : has_line_feed new ≡ false = keeps.lines (ap has_line_feed is.content ∙ is.free) in
    let some : 0 < length new = keeps.some (rw is.content is.some) in
    rw (is.end, append-nil new) (record {
      is = content_of_open new free;
      ended = λ ends. absurd (let clash : true ≡ false = sym ends ∙ e in cc);
      last = open_last new some free;
    })

kept : (line new : List ℕ) → are_ended (line ∷ []) ≡ true → KeepsKind (content_of line) new
    → IsKept line (new ++ end_of line) new
kept line new h kind = kept_by line new (is_ended line) refl h (keeps (content_of line) new kind)

-- all lines, with others after them

alone : (line : List ℕ) (lines : List (List ℕ)) → are_ended (line ∷ lines) ≡ true → are_ended (line ∷ []) ≡ true
alone line [] h = h
alone line (next ∷ lines) h =
    or_left (is_ended line) (nat_lt 0 (length line) && not (has_line_feed line))
    (and_parts (is_ended line) (are_ended (next ∷ lines)) h).0

pub contents_edited : (edit : Edit) (number : ℕ) (lines more : List (List ℕ)) → are_ended (lines ++ more) ≡ true
    → KeepsAll edit number (map content_of lines)
    → map content_of (edited_lines edit number lines) ≡ edited_contents edit number (map content_of lines)
contents_edited edit number [] more h all = refl
contents_edited edit number (line ∷ lines) more h all =
    rw (
      (kept line (edit number (content_of line)) (alone line (lines ++ more) h) all.0).is,
      contents_edited edit (number + 1) lines more (others line (lines ++ more) h) all.1,
    ) refl

before_ended : (line new content : List ℕ) (lines news : List (List ℕ)) → are_ended (line ∷ lines) ≡ true
    → IsKept line new content → are_ended news ≡ true → (length lines ≡ 0 → length news ≡ 0)
    → are_ended (new ∷ news) ≡ true
before_ended line new content lines [] h is more none = is.last
before_ended line new content [] (next ∷ news) h is more none = absurd (omega (arith, none refl))
before_ended line new content (other ∷ lines) (next ∷ news) h is more none =
    and_from (is_ended new) (are_ended (next ∷ news))
    (is.ended (and_parts (is_ended line) (are_ended (other ∷ lines)) h).0) more

long_edited : (edit : Edit) (number : ℕ) (lines : List (List ℕ))
    → length (edited_lines edit number lines) ≡ length lines
long_edited edit number [] = refl
long_edited edit number (line ∷ lines) = ap suc (long_edited edit (number + 1) lines)

pub ended_edited : (edit : Edit) (number : ℕ) (lines more : List (List ℕ)) → are_ended (lines ++ more) ≡ true
    → KeepsAll edit number (map content_of lines) → are_ended (edited_lines edit number lines ++ more) ≡ true
ended_edited edit number [] more h all = h
ended_edited edit number (line ∷ lines) more h all =
    before_ended line (edit number (content_of line) ++ end_of line) (edit number (content_of line)) (lines ++ more)
    (edited_lines edit (number + 1) lines ++ more) h
    (kept line (edit number (content_of line)) (alone line (lines ++ more) h) all.0)
    (ended_edited edit (number + 1) lines more (others line (lines ++ more) h) all.1)
    (λ none. omega (
      arith,
      none,
      length-append lines more,
      length-append (edited_lines edit (number + 1) lines) more,
      long_edited edit (number + 1) lines,
    ))

-- terminator lines

no_terminators_edited : (edit : Edit) (number : ℕ) (contents : List (List ℕ)) → no_terminators contents ≡ true
    → KeepsAll edit number contents → no_terminators (edited_contents edit number contents) ≡ true
no_terminators_edited edit number [] h all = refl
no_terminators_edited edit number (content ∷ contents) h all =
    let each = and_parts (not (is_terminator content)) (no_terminators contents) h in
    and_from (not (is_terminator (edit number content))) (no_terminators (edited_contents edit (number + 1) contents))
    (ap not ((keeps content (edit number content) all.0).terminator) ∙ each.0)
    (no_terminators_edited edit (number + 1) contents each.1 all.1)

-- the record that is written

pub record HasLines (edit : Edit) (bytes : List ℕ) : Type 0 where
  pub contents : body_contents (edited edit bytes) ≡ edited_contents edit 0 (body_contents bytes)
  pub closing : closing (edited edit bytes) ≡ closing bytes

pub has_lines : (edit : Edit) (bytes : List ℕ) → KeepsAll edit 0 (body_contents bytes) → HasLines edit bytes
has_lines edit bytes all =
    let lines : List (List ℕ) = body_lines (lines_of bytes) in
    let rest : List (List ℕ) = closing_lines (lines_of bytes) in
    let ends : are_ended (lines ++ rest) ≡ true = ap are_ended (both (lines_of bytes)) ∙ texts.lines_ended bytes in
    let news : List (List ℕ) = edited_lines edit 0 lines in
    let own : lines_of (edited edit bytes) ≡ news ++ rest =
    ap lines_of (sym (concat-append news rest)) ∙ own_lines (news ++ rest) (ended_edited edit 0 lines rest ends all) in
    let contents : map content_of news ≡ edited_contents edit 0 (body_contents bytes) =
    contents_edited edit 0 lines rest ends all in
    let none : no_terminators (map content_of news) ≡ true =
    ap no_terminators contents
    ∙ no_terminators_edited edit 0 (body_contents bytes) (body_no_terminators (lines_of bytes)) all in
    record {
      contents = ap (λ ls. map content_of (body_lines ls)) own
          ∙ ap (map content_of) (body_before news (lines_of bytes) none) ∙ contents;
      closing = ap (λ ls. concat (closing_lines ls)) own ∙ ap concat (closing_behind news (lines_of bytes) none);
    }
