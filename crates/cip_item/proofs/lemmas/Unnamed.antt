-- A record that doesn't hold the name of label items has none.
use Rattle.std.proofs.Common.{◌≡◌, ◌++◌, ℕ, List, [], ◌∷◌, Bool, true, false, refl, ◌∙◌, ap, subst, arith, length, map, take}
use Rattle.std.specs.List.{concat, list_any}
use Rattle.std.specs.Str.{bytes_eq}
use Rattle.std.proofs.lemmas.Bool.{or_parts}
use Rattle.std.proofs.lemmas.List.{take-append-le}
use Rattle.std.proofs.lemmas.Slice.Eq.{bytes_eq-Decides}
use Rattle.std.proofs.Math.Bool.{and-false}
use Rattle.cip_text.specs.Lines.{lines_of, content_of, starts_with_byte, end_of}
use Rattle.cip_text.specs.Kinds.{is_blank, is_molecule_end}
use Rattle.cip_text.specs.Bodies.{body_contents, body_lines, closing}
use Rattle.cip_text.proofs.lemmas.Contents.{parts}
use Rattle.cip_text.proofs.lemmas.Halves.{body_closing}
use Rattle.cip_item.specs.Kinds.{label_name, holds_label_name, is_heading, is_label_heading}
use Rattle.cip_item.specs.Parts.{part_of, part_behind, next_part, first_part, is_label_item, has_label_part, has_label_item}
use Rattle.cip_item.specs.declared.sections.Part.{Part}
use Rattle.cip_item.specs.declared.sections.Part.TheVariants.{Molecule, Between, OtherItem, LabelItem}
use Rattle.cip_item.proofs.lemmas.Names.{or_behind}

-- a text that holds the name does so with more after it or before it

held_by : (b : ℕ) (bs more : List ℕ) (k : Bool) → bytes_eq (take 12 (b ∷ bs)) label_name ≡ k
    → holds_label_name (b ∷ bs) ≡ true → (holds_label_name bs ≡ true → holds_label_name (bs ++ more) ≡ true)
    → holds_label_name (b ∷ (bs ++ more)) ≡ true
held_by b bs more true e h rest =
    let is : take 12 (b ∷ bs) ≡ label_name = (bytes_eq-Decides (take 12 (b ∷ bs)) label_name).0 e in
    let long : length (take 12 (b ∷ bs)) ≡ 12 = ap length is in
    let front : take 12 ((b ∷ bs) ++ more) ≡ take 12 (b ∷ bs) =
    take-append-le 12 (b ∷ bs) more (grind (arith, long)) in
    rw ((bytes_eq-Decides (take 12 ((b ∷ bs) ++ more)) label_name).1 (front ∙ is)) refl
held_by b bs more false e h rest =
    or_behind (bytes_eq (take 12 (b ∷ (bs ++ more))) label_name) (holds_label_name (bs ++ more)) (rest (rw e at h))

held_before : (text more : List ℕ) → holds_label_name text ≡ true → holds_label_name (text ++ more) ≡ true
held_before [] more h = absurd (grind (arith, h))
held_before (b ∷ bs) more h =
    held_by b bs more (bytes_eq (take 12 (b ∷ bs)) label_name) refl h (held_before bs more)

held_behind : (front text : List ℕ) → holds_label_name text ≡ true → holds_label_name (front ++ text) ≡ true
held_behind [] text h = h
held_behind (b ∷ bs) text h =
    or_behind (bytes_eq (take 12 (b ∷ (bs ++ text))) label_name) (holds_label_name (bs ++ text)) (held_behind bs text h)

held_in_line : (line : List ℕ) → holds_label_name (content_of line) ≡ true → holds_label_name line ≡ true
held_in_line line h =
    subst (λ text. holds_label_name text ≡ true) (parts line) (held_before (content_of line) (end_of line) h)

held_by_line : (line : List ℕ) (lines : List (List ℕ)) (k : Bool) → holds_label_name (content_of line) ≡ k
    → list_any holds_label_name (map content_of (line ∷ lines)) ≡ true
    → (list_any holds_label_name (map content_of lines) ≡ true → holds_label_name (concat lines) ≡ true)
    → holds_label_name (concat (line ∷ lines)) ≡ true
held_by_line line lines true e h more = held_before line (concat lines) (held_in_line line e)
held_by_line line lines false e h more = held_behind line (concat lines) (more (rw e at h))

held_in_lines : (lines : List (List ℕ)) → list_any holds_label_name (map content_of lines) ≡ true
    → holds_label_name (concat lines) ≡ true
held_in_lines [] h = absurd (grind (arith, h))
held_in_lines (line ∷ lines) h = held_by_line line lines (holds_label_name (content_of line)) refl h
    (held_in_lines lines)

held_in_record : (bytes : List ℕ) → list_any holds_label_name (body_contents bytes) ≡ true
    → holds_label_name bytes ≡ true
held_in_record bytes h = subst (λ text. holds_label_name text ≡ true) (body_closing bytes)
    (held_before (concat (body_lines (lines_of bytes))) (closing bytes) (held_in_lines (body_lines (lines_of bytes)) h))

-- where no content holds the name no line belongs to a label item

not_heading : (content : List ℕ) → holds_label_name content ≡ false → is_label_heading content ≡ false
not_heading content h = rw h (and-false (starts_with_byte 62 content))

not_begun : (before : Part) (content : List ℕ) (k : Bool) → is_heading content ≡ k → is_label_heading content ≡ false
    → is_label_item before ≡ false → is_label_item (part_of before content) ≡ false
not_begun Molecule content k e h n = refl
not_begun Between content true e h n = rw (h, e) refl
not_begun Between content false e h n = rw (h, e) refl
not_begun OtherItem content k e h n = rw h refl
not_begun LabelItem content k e h n = absurd (grind (arith, n))

not_open : (part : Part) (content : List ℕ) (a b : Bool) → is_molecule_end content ≡ a → is_blank content ≡ b
    → is_label_item part ≡ false → is_label_item (part_behind part content) ≡ false
not_open Molecule content true b e f n = rw e refl
not_open Molecule content false b e f n = rw e refl
not_open Between content a b e f n = refl
not_open OtherItem content a true e f n = rw f refl
not_open OtherItem content a false e f n = rw f refl
not_open LabelItem content a b e f n = absurd (grind (arith, n))

none_labelled : (before : Part) (contents : List (List ℕ)) → is_label_item before ≡ false
    → list_any holds_label_name contents ≡ false → has_label_part before contents ≡ false
none_labelled before [] n h = refl
none_labelled before (content ∷ contents) n h =
    let each = or_parts (holds_label_name content) (list_any holds_label_name contents) h in
    let here : is_label_item (part_of before content) ≡ false =
    not_begun before content (is_heading content) refl (not_heading content each.0) n in
    rw (
      here,
      none_labelled (next_part before content) contents
          (not_open (part_of before content) content (is_molecule_end content) (is_blank content) refl refl here)
          each.1,
    ) refl

first_is_none : (contents : List (List ℕ)) (k : Bool) → list_any is_molecule_end contents ≡ k
    → is_label_item (first_part contents) ≡ false
first_is_none contents true e = rw e refl
first_is_none contents false e = rw e refl

unnamed_by : (bytes : List ℕ) (k : Bool) → list_any holds_label_name (body_contents bytes) ≡ k
    → holds_label_name bytes ≡ false → has_label_item bytes ≡ false
unnamed_by bytes true e h = absurd (grind (arith, held_in_record bytes e, h))
unnamed_by bytes false e h = none_labelled (first_part (body_contents bytes)) (body_contents bytes)
    (first_is_none (body_contents bytes) (list_any is_molecule_end (body_contents bytes)) refl) e

pub unnamed : (bytes : List ℕ) → holds_label_name bytes ≡ false → has_label_item bytes ≡ false
unnamed bytes h = unnamed_by bytes (list_any holds_label_name (body_contents bytes)) refl h
