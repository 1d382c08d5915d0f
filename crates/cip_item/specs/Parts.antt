-- The parts of a record, line by line. CTfile Formats, SDfile data items; the label items are own.
use Rattle.std.specs.Prelude.{ℕ, List, [], ◌∷◌, ◌++◌, Bool, true, false, ◌||◌, if◌then◌else◌}
use Rattle.std.specs.List.{concat, list_any}
use Rattle.cip_text.specs.Lines.{lines_of, content_of}
use Rattle.cip_text.specs.Bodies.{body_lines, body_contents, closing}
use Rattle.cip_text.specs.Kinds.{is_blank, is_molecule_end}
use Rattle.cip_item.specs.Kinds.{is_heading, is_label_heading}
use Rattle.cip_item.specs.declared.sections.Part.{Part}
use Rattle.cip_item.specs.declared.sections.Part.TheVariants.{Molecule, Between, OtherItem, LabelItem}

-- the part that a line belongs to, by what the lines before it left open

-- Items begin after the first `M  END` line, or at once where there is none.
abbrev pub first_part : List (List ℕ) → Part
first_part contents = if list_any is_molecule_end contents then Molecule else Between

-- A line inside an item begins no other one, except that the heading of a label item always begins one.
abbrev pub part_of : Part → List ℕ → Part
part_of Molecule content = Molecule
part_of Between content =
    if is_label_heading content then LabelItem
    else if is_heading content then OtherItem
    else Between
part_of OtherItem content = if is_label_heading content then LabelItem else OtherItem
part_of LabelItem content = LabelItem

-- what a line of this part leaves open: the molecule goes on to its end line, and an item to its first blank line
abbrev pub part_behind : Part → List ℕ → Part
part_behind Molecule content = if is_molecule_end content then Between else Molecule
part_behind Between content = Between
part_behind OtherItem content = if is_blank content then Between else OtherItem
part_behind LabelItem content = if is_blank content then Between else LabelItem

abbrev pub next_part : Part → List ℕ → Part
next_part before content = part_behind (part_of before content) content

abbrev pub is_label_item : Part → Bool
is_label_item Molecule = false
is_label_item Between = false
is_label_item OtherItem = false
is_label_item LabelItem = true

-- without label items

abbrev pub kept_lines : Part → List (List ℕ) → List (List ℕ)
kept_lines before [] = []
kept_lines before (line ∷ lines) =
    if is_label_item (part_of before (content_of line)) then kept_lines (next_part before (content_of line)) lines
    else line ∷ kept_lines (next_part before (content_of line)) lines

-- a record without its label items
abbrev pub without_label_items : List ℕ → List ℕ
without_label_items bytes = concat (kept_lines (first_part (body_contents bytes)) (body_lines (lines_of bytes)))
    ++ closing bytes

abbrev pub has_label_part : Part → List (List ℕ) → Bool
has_label_part before [] = false
has_label_part before (content ∷ contents) = is_label_item (part_of before content)
    || has_label_part (next_part before content) contents

-- some line of a record belongs to a label item
abbrev pub has_label_item : List ℕ → Bool
has_label_item bytes = has_label_part (first_part (body_contents bytes)) (body_contents bytes)
