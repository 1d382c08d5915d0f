-- Putting in an item that was taken out.
use Rattle.std.proofs.Common.{◌≡◌, ◌<◌, ◌++◌, ℕ, List, [], ◌∷◌, Bool, true, false, not, refl, sym, ◌∙◌, ap, arith, length, map, subst, append-nil}
use Rattle.std.specs.List.{concat, list_all}
use Rattle.std.proofs.lemmas.Bool.{and_parts}
use Rattle.std.proofs.lemmas.List.Folds.{concat-append}
use Rattle.cip_text.specs.Lines.{lines_of, content_of}
use Rattle.cip_text.specs.Kinds.{is_blank}
use Rattle.cip_text.specs.Laws.{is_ended}
use Rattle.cip_text.proofs.lemmas.Ends as texts
use Rattle.cip_text.specs.Kinds.{is_molecule_end}
use Rattle.cip_text.specs.Bodies.{body_lines, body_contents}
use Rattle.cip_text.specs.Bodies.{body, closing}
use Rattle.cip_item.specs.Putting.{line_end_for, has_returns, missing_end, needs_gap, gap, item, with_item, prepared}
use Rattle.cip_item.specs.Laws.{ItemsArePutAgain}
use Rattle.cip_item.proofs.lemmas.Closed.{none_missing, missing_behind}
use Rattle.cip_text.proofs.lemmas.Ended.{end_as, body_ended}
use Rattle.cip_text.proofs.lemmas.Halves.{body_closing}
use Rattle.cip_item.proofs.lemmas.ItemLines.{no_terminators}
use Rattle.cip_laws.proofs.lemmas.put_items.LineEnds.{same_returns, no_closing}
use Rattle.cip_item.proofs.lemmas.Made.{IsMade, made}
use Rattle.cip_item.proofs.lemmas.TakenOut.{gap_lines, gap_contents, returns_of, gap_of, closed_body, front, front_text, front_ended, front_contents, front_no_terminators, four_joined, prepared_text, items_are_taken_out}

-- lines with their ends lack none

some_text : (line : List ℕ) (lines : List (List ℕ)) → is_ended line ≡ true → 0 < length (concat (line ∷ lines))
some_text [] lines h = absurd (grind (arith, h))
some_text (b ∷ bs) lines h = omega arith

none_missing_of : (end : List ℕ) (lines : List (List ℕ)) → list_all is_ended lines ≡ true
    → missing_end end (concat lines) ≡ []
none_missing_of end [] h = refl
none_missing_of end (line ∷ []) h = ap (missing_end end) (append-nil line)
    ∙ none_missing end line (and_parts (is_ended line) true h).0
none_missing_of end (line ∷ next ∷ lines) h =
    let each = and_parts (is_ended line) (list_all is_ended (next ∷ lines)) h in
    missing_behind end line (concat (next ∷ lines))
    (some_text next lines (and_parts (is_ended next) (list_all is_ended lines) each.1).0)
    ∙ none_missing_of end (next ∷ lines) each.1

-- after an empty line none is needed

none_ended : (filled : Bool) (contents : List (List ℕ)) → needs_gap true filled (contents ++ [] ∷ []) ≡ false
none_ended filled [] = refl
none_ended filled (content ∷ contents) = none_ended (not (is_blank content)) contents

none_line : (content : List ℕ) (contents : List (List ℕ)) (k : Bool) → is_molecule_end content ≡ k
    → needs_gap false false (contents ++ [] ∷ []) ≡ false →
    needs_gap false false (content ∷ (contents ++ [] ∷ [])) ≡ false
none_line content contents true e more = rw e (none_ended false contents)
none_line content contents false e more = rw e more

none_behind_empty : (contents : List (List ℕ)) → needs_gap false false (contents ++ [] ∷ []) ≡ false
none_behind_empty [] = refl
none_behind_empty (content ∷ contents) = none_line content contents (is_molecule_end content) refl
    (none_behind_empty contents)

none_needed : (contents : List (List ℕ)) (needed : Bool) → needs_gap false false contents ≡ needed
    → needs_gap false false (contents ++ gap_contents needed) ≡ false
none_needed contents true h = none_behind_empty contents
none_needed contents false h = ap (needs_gap false false) (append-nil contents) ∙ h

-- the record with the line ends that the item needs

no_gap : (bytes : List ℕ) (returns : Bool) → body_lines (lines_of bytes) ≡ []
    → concat (gap_lines returns (gap_of bytes)) ≡ []
no_gap bytes returns h = rw h refl

same_end : (bytes : List ℕ) → has_returns false (concat (front bytes) ++ closing bytes) ≡ returns_of bytes
same_end bytes =
    ap (λ xs. has_returns false (xs ++ closing bytes))
    (concat-append (closed_body bytes) (gap_lines (returns_of bytes) (gap_of bytes)))
    ∙ same_returns (body_lines (lines_of bytes)) (closing bytes)
    (concat (gap_lines (returns_of bytes) (gap_of bytes))) (returns_of bytes)
    (ap (has_returns false) (sym (body_closing bytes))) (body_ended (lines_of bytes) (texts.lines_ended bytes))
    (λ line b o. ap concat (no_closing (lines_of bytes) line (texts.lines_ended bytes) b o))
    (no_gap bytes (returns_of bytes))

front_is_body : (bytes : List ℕ) → no_terminators (map content_of (front bytes)) ≡ true
front_is_body bytes = ap no_terminators (front_contents bytes) ∙ front_no_terminators bytes

made_prepared : (bytes : List ℕ) → IsMade (front bytes) bytes (prepared bytes)
made_prepared bytes = subst (IsMade (front bytes) bytes) (prepared_text bytes)
    (made (front bytes) bytes (front_ended bytes) (front_is_body bytes))

prepared_end : (bytes : List ℕ) → line_end_for (prepared bytes) ≡ line_end_for bytes
prepared_end bytes = ap end_as (ap (has_returns false) (sym (prepared_text bytes)) ∙ same_end bytes)

prepared_needs_none : (bytes : List ℕ) → gap_of (prepared bytes) ≡ false
prepared_needs_none bytes =
    ap (λ lines. needs_gap false false (map content_of lines)) (made_prepared bytes).body
    ∙ ap (needs_gap false false) (front_contents bytes)
    ∙ none_needed (body_contents bytes) (gap_of bytes) refl

item_put : (text front rest end : List ℕ) (values : List (List ℕ)) → body text ≡ front → closing text ≡ rest
    → line_end_for text ≡ end → missing_end end front ≡ [] → gap_of text ≡ false →
    with_item text values ≡ front ++ (item end values ++ rest)
item_put text front rest end values b c e m g = rw (e, b, m, g, c) refl

put_again : (bytes : List ℕ) (values : List (List ℕ)) → with_item (prepared bytes) values ≡ with_item bytes values
put_again bytes values =
    item_put (prepared bytes) (concat (front bytes)) (closing bytes) (line_end_for bytes) values
    (ap concat (made_prepared bytes).body) (made_prepared bytes).closing (prepared_end bytes)
    (none_missing_of (line_end_for bytes) (front bytes) (front_ended bytes)) (prepared_needs_none bytes)
    ∙ ap (λ xs. xs ++ (item (line_end_for bytes) values ++ closing bytes)) (front_text bytes)
    ∙ four_joined (body bytes) (missing_end (line_end_for bytes) (body bytes)) (gap (line_end_for bytes) bytes)
    (item (line_end_for bytes) values ++ closing bytes)

-- it has an empty line more at most
pub prepared_contents : (bytes : List ℕ) → body_contents (prepared bytes)
    ≡ body_contents bytes ++ gap_contents (gap_of bytes)
prepared_contents bytes = ap (map content_of) (made_prepared bytes).body ∙ front_contents bytes

pub items_are_put_again : ItemsArePutAgain
items_are_put_again bytes values h n = ap (λ text. with_item text values) (items_are_taken_out bytes values h n)
    ∙ put_again bytes values
