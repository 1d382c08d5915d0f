-- What lines leave open, one after the other, and which of them are kept.
use Rattle.std.proofs.Common.{◌≡◌, ◌++◌, ℕ, List, [], ◌∷◌, Bool, true, false, refl, ap, arith, map}
use Rattle.std.specs.List.{list_any}
use Rattle.std.proofs.lemmas.Bool.{or_parts}
use Rattle.cip_text.specs.Lines.{lines_of, content_of}
use Rattle.cip_text.specs.Bodies.{body_contents, body_lines}
use Rattle.cip_text.proofs.lemmas.Halves.{body_closing}
use Rattle.cip_text.specs.Kinds.{is_blank}
use Rattle.cip_text.specs.Kinds.{is_molecule_end}
use Rattle.cip_item.specs.Kinds.{is_heading, is_label_heading}
use Rattle.cip_item.specs.Laws.{BodiesStay}
use Rattle.cip_item.specs.Parts.{part_of, part_behind, next_part, first_part, is_label_item, kept_lines, without_label_items, has_label_part, has_label_item}
use Rattle.cip_item.specs.declared.sections.Part.{Part}
use Rattle.cip_item.specs.declared.sections.Part.TheVariants.{Molecule, Between, OtherItem, LabelItem}

-- what lines with these contents leave open
abbrev pub behind : Part → List (List ℕ) → Part
behind before [] = before
behind before (content ∷ contents) = behind (next_part before content) contents

-- where no line belongs to a label item all are kept

all_line : (before : Part) (line : List ℕ) (lines : List (List ℕ))
    → is_label_item (part_of before (content_of line)) ≡ false
    → kept_lines (next_part before (content_of line)) lines ≡ lines →
    kept_lines before (line ∷ lines) ≡ line ∷ lines
all_line before line lines e more = rw (e, more) refl

pub all_kept : (before : Part) (lines : List (List ℕ)) → has_label_part before (map content_of lines) ≡ false
    → kept_lines before lines ≡ lines
all_kept before [] h = refl
all_kept before (line ∷ lines) h =
    let each = or_parts (is_label_item (part_of before (content_of line)))
    (has_label_part (next_part before (content_of line)) (map content_of lines)) h in
    all_line before line lines each.0 (all_kept (next_part before (content_of line)) lines each.1)

-- where no line belongs to a label item the record is itself without its label items
pub itself : (bytes : List ℕ) → has_label_item bytes ≡ false → without_label_items bytes ≡ bytes
itself bytes h =
    rw (all_kept (first_part (body_contents bytes)) (body_lines (lines_of bytes)) h) (body_closing bytes)

-- the lines that are kept of two lists

both_line : (before : Part) (line : List ℕ) (lines more : List (List ℕ)) (k : Bool)
    → is_label_item (part_of before (content_of line)) ≡ k →
    kept_lines (next_part before (content_of line)) (lines ++ more)
    ≡ kept_lines (next_part before (content_of line)) lines
    ++ kept_lines (behind (next_part before (content_of line)) (map content_of lines)) more →
    kept_lines before (line ∷ (lines ++ more))
    ≡ kept_lines before (line ∷ lines) ++ kept_lines
    (behind (next_part before (content_of line)) (map content_of lines)) more
both_line before line lines more true e same = rw e same
both_line before line lines more false e same = rw e (ap (λ xs. line ∷ xs) same)

pub both_kept : (before : Part) (lines more : List (List ℕ))
    → kept_lines before (lines ++ more) ≡ kept_lines before lines
    ++ kept_lines (behind before (map content_of lines)) more
both_kept before [] more = refl
both_kept before (line ∷ lines) more = both_line before line lines more
    (is_label_item (part_of before (content_of line))) refl (both_kept (next_part before (content_of line)) lines more)

-- after the molecule, and in no label item

abbrev pub is_free : Part → Bool
is_free Molecule = false
is_free Between = true
is_free OtherItem = true
is_free LabelItem = false

free_behind : (part : Part) (content : List ℕ) (k : Bool) → is_blank content ≡ k → is_free part ≡ true
    → is_free (part_behind part content) ≡ true
free_behind Molecule content k e h = absurd (grind (arith, h))
free_behind Between content k e h = refl
free_behind OtherItem content true e h = rw e refl
free_behind OtherItem content false e h = rw e refl
free_behind LabelItem content k e h = absurd (grind (arith, h))

free_part : (before : Part) (content : List ℕ) (a b : Bool) → is_label_heading content ≡ a → is_heading content ≡ b
    → is_free before ≡ true → is_label_item (part_of before content) ≡ false →
    is_free (part_of before content) ≡ true
free_part Molecule content a b e f h n = absurd (grind (arith, h))
free_part Between content true b e f h n = absurd (grind (arith, rw e at n))
free_part Between content false true e f h n = rw (e, f) refl
free_part Between content false false e f h n = rw (e, f) refl
free_part OtherItem content true b e f h n = absurd (grind (arith, rw e at n))
free_part OtherItem content false b e f h n = rw e refl
free_part LabelItem content a b e f h n = absurd (grind (arith, h))

free_next : (before : Part) (content : List ℕ) → is_free before ≡ true
    → is_label_item (part_of before content) ≡ false → is_free (next_part before content) ≡ true
free_next before content h n =
    free_behind (part_of before content) content (is_blank content) refl
    (free_part before content (is_label_heading content) (is_heading content) refl refl h n)

stays_free : (before : Part) (contents : List (List ℕ)) → is_free before ≡ true
    → has_label_part before contents ≡ false → is_free (behind before contents) ≡ true
stays_free before [] h n = h
stays_free before (content ∷ contents) h n =
    let each = or_parts (is_label_item (part_of before content))
    (has_label_part (next_part before content) contents) n in
    stays_free (next_part before content) contents (free_next before content h each.0) each.1

molecule_line : (content : List ℕ) (contents : List (List ℕ)) (k : Bool) → is_molecule_end content ≡ k
    → list_any is_molecule_end (content ∷ contents) ≡ true →
    has_label_part Molecule (content ∷ contents) ≡ false
    → (list_any is_molecule_end contents ≡ true → has_label_part Molecule contents ≡ false
    → is_free (behind Molecule contents) ≡ true) →
    is_free (behind Molecule (content ∷ contents)) ≡ true
molecule_line content contents true e some n more = rw e (stays_free Between contents refl (rw e at n))
molecule_line content contents false e some n more = rw e (more (rw e at some) (rw e at n))

free_molecule : (contents : List (List ℕ)) → list_any is_molecule_end contents ≡ true
    → has_label_part Molecule contents ≡ false → is_free (behind Molecule contents) ≡ true
free_molecule [] some n = absurd (grind (arith, some))
free_molecule (content ∷ contents) some n = molecule_line content contents (is_molecule_end content) refl some n
    (free_molecule contents)

free_first : (contents : List (List ℕ)) (k : Bool) → list_any is_molecule_end contents ≡ k
    → has_label_part (first_part contents) contents ≡ false → is_free (behind (first_part contents) contents) ≡ true
free_first contents true e n = rw e (free_molecule contents e (rw e at n))
free_first contents false e n = rw e (stays_free Between contents refl (rw e at n))

-- after the lines of a record without a label item one can begin
pub free_record : (contents : List (List ℕ)) → has_label_part (first_part contents) contents ≡ false
    → is_free (behind (first_part contents) contents) ≡ true
free_record contents n = free_first contents (list_any is_molecule_end contents) refl n

pub bodies_stay : BodiesStay
bodies_stay = record { parts = body_closing; front = λ bytes values. (_, refl) }
