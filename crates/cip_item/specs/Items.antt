-- The items of a record, by the numbers of their lines from 0. CTfile Formats, SDfile data items.
use Rattle.std.specs.Prelude.{ℕ, List, [], ◌∷◌, ◌+◌, Bool, false, ◌||◌, if◌then◌else◌}
use Rattle.cip_text.specs.Kinds.{is_blank}
use Rattle.cip_item.specs.Kinds.{is_heading, is_label_heading}
use Rattle.cip_text.specs.Bodies.{body_contents}
use Rattle.cip_item.specs.Parts.{part_of, next_part, first_part}
use Rattle.cip_item.specs.declared.sections.Part.{Part}
use Rattle.cip_item.specs.declared.sections.Part.TheVariants.{Molecule, Between, OtherItem, LabelItem}
use Rattle.cip_item.specs.declared.items.Item.{Item}

-- whether a line begins an item, by what the lines before it left open
abbrev pub begins_item : Part → List ℕ → Bool
begins_item Molecule content = false
begins_item Between content = is_label_heading content || is_heading content
begins_item OtherItem content = is_label_heading content
begins_item LabelItem content = is_label_heading content

-- The number after the last line of an item, of which the lines from this number on are left: it goes on through
-- its first blank line, up to the heading of a label item, or to the end.
abbrev pub end_of_item : ℕ → List (List ℕ) → ℕ
end_of_item number [] = number
end_of_item number (content ∷ contents) =
    if is_label_heading content then number
    else if is_blank content then number + 1
    else end_of_item (number + 1) contents

abbrev pub items_from : Part → ℕ → List (List ℕ) → List Item
items_from before number [] = []
items_from before number (content ∷ contents) =
    if begins_item before content
    then record {
      first = number;
      past = end_of_item (number + 1) contents;
      label = is_label_heading content;
    } ∷ items_from (part_of before content) (number + 1) contents
    else items_from (next_part before content) (number + 1) contents

-- those of a record whose lines have these contents
abbrev pub items_among : List (List ℕ) → List Item
items_among contents = items_from (first_part contents) 0 contents

abbrev pub items_of : List ℕ → List Item
items_of bytes = items_among (body_contents bytes)
