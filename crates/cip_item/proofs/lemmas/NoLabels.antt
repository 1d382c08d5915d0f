-- A record without its label items has none.
use Rattle.std.proofs.Common.{◌≡◌, ◌≤◌, ◌++◌, ℕ, List, [], ◌∷◌, Bool, true, false, not, refl, sym, ◌∙◌, ap, arith, length, map}
use Rattle.std.specs.List.{concat, list_any}
use Rattle.std.proofs.lemmas.Bool.{and_parts, and_from, or_from, or_left, or_parts}
use Rattle.std.proofs.lemmas.List.Folds.{concat-append}
use Rattle.cip_text.specs.Lines.{lines_of, content_of}
use Rattle.cip_text.specs.Laws.{is_ended, are_ended}
use Rattle.cip_text.specs.Kinds.{is_blank, is_terminator, is_molecule_end}
use Rattle.cip_text.specs.Bodies.{body_lines, closing_lines, body_contents, closing}
use Rattle.cip_text.proofs.lemmas.Ends as texts
use Rattle.cip_text.proofs.lemmas.Ended.{own_lines, others}
use Rattle.cip_item.specs.Kinds.{is_heading, is_label_heading}
use Rattle.cip_item.specs.Parts.{part_of, part_behind, next_part, first_part, is_label_item, kept_lines, without_label_items, has_label_part}
use Rattle.cip_item.specs.declared.sections.Part.{Part}
use Rattle.cip_item.specs.declared.sections.Part.TheVariants.{Molecule, Between, OtherItem, LabelItem}
use Rattle.cip_item.proofs.lemmas.ItemLines.{no_terminators}
use Rattle.cip_item.specs.Laws.{NoLabelItemStays}
use Rattle.cip_item.proofs.lemmas.Made.{body_before, closing_behind, body_no_terminators}

-- after the molecule a line that is kept heads no label item, whatever is open

abbrev is_behind : Part → Bool
is_behind Molecule = false
is_behind Between = true
is_behind OtherItem = true
is_behind LabelItem = true

abbrev is_open : Part → Bool
is_open Molecule = false
is_open Between = true
is_open OtherItem = true
is_open LabelItem = false

no_heading : (before : Part) (content : List ℕ) (a : Bool) → is_label_heading content ≡ a → is_behind before ≡ true
    → is_label_item (part_of before content) ≡ false → is_label_heading content ≡ false
no_heading before content false e h n = e
no_heading Molecule content true e h n = absurd cc
no_heading Between content true e h n = absurd (let m = rw e at n in cc)
no_heading OtherItem content true e h n = absurd (let m = rw e at n in cc)
no_heading LabelItem content true e h n = absurd cc

behind_still : (part : Part) (content : List ℕ) (k : Bool) → is_blank content ≡ k → is_behind part ≡ true
    → is_behind (part_behind part content) ≡ true
behind_still Molecule content k e h = absurd cc
behind_still Between content k e h = refl
behind_still OtherItem content true e h = rw e refl
behind_still OtherItem content false e h = rw e refl
behind_still LabelItem content true e h = rw e refl
behind_still LabelItem content false e h = rw e refl

part_still : (before : Part) (content : List ℕ) (a b : Bool) → is_label_heading content ≡ a → is_heading content ≡ b
    → is_behind before ≡ true → is_behind (part_of before content) ≡ true
part_still Molecule content a b e f h = absurd cc
part_still Between content true b e f h = rw e refl
part_still Between content false true e f h = rw (e, f) refl
part_still Between content false false e f h = rw (e, f) refl
part_still OtherItem content true b e f h = rw e refl
part_still OtherItem content false b e f h = rw e refl
part_still LabelItem content a b e f h = refl

next_still : (before : Part) (content : List ℕ) → is_behind before ≡ true → is_behind (next_part before content) ≡ true
next_still before content h =
    behind_still (part_of before content) content (is_blank content) refl
    (part_still before content (is_label_heading content) (is_heading content) refl refl h)

record StaysOpen (before : Part) (content : List ℕ) : Type 0 where
  here : is_label_item (part_of before content) ≡ false
  next : is_open (next_part before content) ≡ true

stays_open : (before : Part) (content : List ℕ) (b k : Bool) → is_heading content ≡ b → is_blank content ≡ k
    → is_open before ≡ true → is_label_heading content ≡ false → StaysOpen before content
stays_open Molecule content b k f g h n = absurd cc
stays_open LabelItem content b k f g h n = absurd cc
stays_open Between content true true f g h n = record { here = rw (n, f) refl; next = rw (n, f, g) refl }
stays_open Between content true false f g h n = record { here = rw (n, f) refl; next = rw (n, f, g) refl }
stays_open Between content false k f g h n = record { here = rw (n, f) refl; next = rw (n, f) refl }
stays_open OtherItem content b true f g h n = record { here = rw n refl; next = rw (n, g) refl }
stays_open OtherItem content b false f g h n = record { here = rw n refl; next = rw (n, g) refl }

abbrev HasNone : Part → List (List ℕ) → Type 0
HasNone before lines = has_label_part before (map content_of lines) ≡ false

behind_line : (free before : Part) (line : List ℕ) (lines : List (List ℕ)) (k : Bool)
    → is_label_item (part_of before (content_of line)) ≡ k → is_open free ≡ true → is_behind before ≡ true
    → ((other : Part) → is_open other ≡ true → HasNone other (kept_lines (next_part before (content_of line)) lines))
    → HasNone free (kept_lines before (line ∷ lines))
behind_line free before line lines true e o h more = rw e (more free o)
behind_line free before line lines false e o h more =
    let content : List ℕ = content_of line in
    let s : StaysOpen free content =
    stays_open free content (is_heading content) (is_blank content) refl refl o
    (no_heading before content (is_label_heading content) refl h e) in
    rw e (or_from (is_label_item (part_of free content)) (has_label_part (next_part free content)
    (map content_of (kept_lines (next_part before content) lines)))
    s.here (more (next_part free content) s.next))

behind_none : (lines : List (List ℕ)) (free before : Part) → is_open free ≡ true → is_behind before ≡ true
    → HasNone free (kept_lines before lines)
behind_none [] free before o h = refl
behind_none (line ∷ lines) free before o h =
    behind_line free before line lines (is_label_item (part_of before (content_of line))) refl o h
    (λ other p. behind_none lines other (next_part before (content_of line)) p (next_still before (content_of line) h))

-- the lines of the molecule are kept

molecule_line : (line : List ℕ) (lines : List (List ℕ)) (k : Bool) → is_molecule_end (content_of line) ≡ k
    → HasNone Molecule (kept_lines Molecule lines) → HasNone Molecule (kept_lines Molecule (line ∷ lines))
molecule_line line lines true e more = rw e (behind_none lines Between Between refl refl)
molecule_line line lines false e more = rw e more

molecule_none : (lines : List (List ℕ)) → HasNone Molecule (kept_lines Molecule lines)
molecule_none [] = refl
molecule_none (line ∷ lines) = molecule_line line lines (is_molecule_end (content_of line)) refl (molecule_none lines)

abbrev has_end : List (List ℕ) → Bool
has_end lines = list_any is_molecule_end (map content_of lines)

end_line : (line : List ℕ) (lines : List (List ℕ)) (k : Bool) → is_molecule_end (content_of line) ≡ k
    → has_end (line ∷ lines) ≡ true → (has_end lines ≡ true → has_end (kept_lines Molecule lines) ≡ true)
    → has_end (kept_lines Molecule (line ∷ lines)) ≡ true
end_line line lines true e h more = rw e refl
end_line line lines false e h more = rw e (more (rw e at h))

end_kept : (lines : List (List ℕ)) → has_end lines ≡ true → has_end (kept_lines Molecule lines) ≡ true
end_kept [] h = absurd cc
end_kept (line ∷ lines) h = end_line line lines (is_molecule_end (content_of line)) refl h (end_kept lines)

none_line : (before : Part) (line : List ℕ) (lines : List (List ℕ)) (k : Bool)
    → is_label_item (part_of before (content_of line)) ≡ k → is_molecule_end (content_of line) ≡ false
    → has_end (kept_lines (next_part before (content_of line)) lines) ≡ false
    → has_end (kept_lines before (line ∷ lines)) ≡ false
none_line before line lines true e n more = rw e more
none_line before line lines false e n more =
    rw e (or_from (is_molecule_end (content_of line)) (has_end (kept_lines (next_part before (content_of line)) lines))
    n more)

none_kept : (lines : List (List ℕ)) (before : Part) → has_end lines ≡ false → has_end (kept_lines before lines) ≡ false
none_kept [] before h = refl
none_kept (line ∷ lines) before h =
    let each = or_parts (is_molecule_end (content_of line)) (has_end lines) h in
    none_line before line lines (is_label_item (part_of before (content_of line))) refl each.0
    (none_kept lines (next_part before (content_of line)) each.1)

lines_none : (lines : List (List ℕ)) (k : Bool) → has_end lines ≡ k
    → has_label_part (first_part (map content_of (kept_lines (first_part (map content_of lines)) lines)))
    (map content_of (kept_lines (first_part (map content_of lines)) lines)) ≡ false
lines_none lines true e = rw e (rw (end_kept lines e) (molecule_none lines))
lines_none lines false e = rw e (rw (none_kept lines Between e) (behind_none lines Between Between refl refl))

-- the lines that are kept are the lines of their text

alone : (line : List ℕ) (lines : List (List ℕ)) → are_ended (line ∷ lines) ≡ true → are_ended (line ∷ []) ≡ true
alone line [] h = h
alone line (next ∷ lines) h =
    or_left (is_ended line) _ (and_parts (is_ended line) (are_ended (next ∷ lines)) h).0

before_ended : (line : List ℕ) (lines fewer : List (List ℕ)) → are_ended (line ∷ lines) ≡ true
    → are_ended fewer ≡ true → length fewer ≤ length lines → are_ended (line ∷ fewer) ≡ true
before_ended line lines [] h e few = alone line lines h
before_ended line [] (next ∷ fewer) h e few = absurd (omega (arith, few))
before_ended line (other ∷ lines) (next ∷ fewer) h e few =
    and_from (is_ended line) (are_ended (next ∷ fewer)) (and_parts (is_ended line) (are_ended (other ∷ lines)) h).0 e

record AreFewer (before : Part) (lines more : List (List ℕ)) : Type 0 where
  ended : are_ended (kept_lines before lines ++ more) ≡ true
  few : length (kept_lines before lines ++ more) ≤ length (lines ++ more)
  plain : no_terminators (map content_of (kept_lines before lines)) ≡ true

fewer_line : (before : Part) (line : List ℕ) (lines more : List (List ℕ)) (k : Bool)
    → is_label_item (part_of before (content_of line)) ≡ k → are_ended (line ∷ lines ++ more) ≡ true
    → no_terminators (map content_of (line ∷ lines)) ≡ true
    → AreFewer (next_part before (content_of line)) lines more → AreFewer before (line ∷ lines) more
fewer_line before line lines more true e h n are =
    record { ended = rw e are.ended; few = rw e (omega (arith, are.few)); plain = rw e are.plain }
fewer_line before line lines more false e h n are = record {
  ended = rw e (before_ended line (lines ++ more) (kept_lines (next_part before (content_of line)) lines ++ more) h
      are.ended are.few);
  few = rw e (omega (arith, are.few));
  plain = rw e (and_from (not (is_terminator (content_of line)))
      (no_terminators (map content_of (kept_lines (next_part before (content_of line)) lines)))
      (and_parts (not (is_terminator (content_of line))) (no_terminators (map content_of lines)) n).0 are.plain);
}

are_fewer : (lines more : List (List ℕ)) (before : Part) → are_ended (lines ++ more) ≡ true
    → no_terminators (map content_of lines) ≡ true → AreFewer before lines more
are_fewer [] more before h n = record { ended = h; few = omega arith; plain = refl }
are_fewer (line ∷ lines) more before h n =
    fewer_line before line lines more (is_label_item (part_of before (content_of line))) refl h n
    (are_fewer lines more (next_part before (content_of line)) (others line (lines ++ more) h)
    (and_parts (not (is_terminator (content_of line))) (no_terminators (map content_of lines)) n).1)

pub both : (lines : List (List ℕ)) → body_lines lines ++ closing_lines lines ≡ lines
both [] = refl
both (line ∷ lines) = by_kind line lines (is_terminator (content_of line)) refl (both lines)
  where
    by_kind : (line : List ℕ) (lines : List (List ℕ)) (k : Bool) → is_terminator (content_of line) ≡ k
        → body_lines lines ++ closing_lines lines ≡ lines
        → body_lines (line ∷ lines) ++ closing_lines (line ∷ lines) ≡ line ∷ lines
    by_kind line lines true e more = rw e refl
    by_kind line lines false e more = rw e (ap (λ rest. line ∷ rest) more)

record AreKept (bytes : List ℕ) : Type 0 where
  plain : no_terminators
      (map content_of (kept_lines (first_part (body_contents bytes)) (body_lines (lines_of bytes)))) ≡ true
  own : lines_of (without_label_items bytes) ≡ kept_lines (first_part (body_contents bytes))
      (body_lines (lines_of bytes)) ++ closing_lines (lines_of bytes)

are_kept : (bytes : List ℕ) → AreKept bytes
are_kept bytes =
    let lines : List (List ℕ) = body_lines (lines_of bytes) in
    let rest : List (List ℕ) = closing_lines (lines_of bytes) in
    let part : Part = first_part (body_contents bytes) in
    let are : AreFewer part lines rest =
    are_fewer lines rest part (ap are_ended (both (lines_of bytes)) ∙ texts.lines_ended bytes)
    (body_no_terminators (lines_of bytes)) in
    record {
      plain = are.plain;
      own = ap lines_of (sym (concat-append (kept_lines part lines) rest))
          ∙ own_lines (kept_lines part lines ++ rest) are.ended;
    }

pub contents_kept : (bytes : List ℕ) → body_contents (without_label_items bytes)
    ≡ map content_of (kept_lines (first_part (body_contents bytes)) (body_lines (lines_of bytes)))
contents_kept bytes =
    ap (λ ls. map content_of (body_lines ls)) (are_kept bytes).own
    ∙ ap (map content_of) (body_before (kept_lines (first_part (body_contents bytes)) (body_lines (lines_of bytes)))
    (lines_of bytes) (are_kept bytes).plain)

pub closing_kept : (bytes : List ℕ) → closing (without_label_items bytes) ≡ closing bytes
closing_kept bytes =
    ap (λ ls. concat (closing_lines ls)) (are_kept bytes).own
    ∙ ap concat (closing_behind (kept_lines (first_part (body_contents bytes)) (body_lines (lines_of bytes)))
    (lines_of bytes) (are_kept bytes).plain)

-- a record without its label items has none
pub no_label_item : NoLabelItemStays
no_label_item bytes =
    ap (λ contents. has_label_part (first_part contents) contents) (contents_kept bytes)
    ∙ lines_none (body_lines (lines_of bytes)) (has_end (body_lines (lines_of bytes))) refl
