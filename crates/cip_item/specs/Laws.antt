-- What holds of a label item that is put in or taken out. Own.
use Rattle.std.specs.Prelude.{◌≡◌, ◌++◌, ℕ, List, [], ◌∷◌, ◌+◌, Bool, true, false, ◌&&◌, not, ◌==◌, nat_le, nat_lt, if◌then◌else◌}
use Rattle.std.specs.List.{concat, list_all, list_any, take_while}
use Rattle.cip_text.specs.Kinds.{is_blank, is_molecule_end}
use Rattle.cip_text.specs.Lines.{line_feed, carriage_return, ends_with_byte, lines_of}
use Rattle.cip_item.specs.Items.{items_of}
use Rattle.cip_text.specs.Bodies.{body_lines}
use Rattle.cip_item.specs.Parts.{without_label_items, has_label_item}
use Rattle.cip_text.specs.Bodies.{body, closing}
use Rattle.cip_item.specs.Putting.{has_returns, needs_gap, with_item, prepared, is_value}
use Rattle.cip_item.specs.declared.items.Item.{Item}

-- an item that was put in is taken out whole: the record is as before, up to the line ends that the item needed
abbrev pub ItemsAreTakenOut : Type 0
ItemsAreTakenOut = (bytes : List ℕ) (values : List (List ℕ)) →
    list_all is_value values ≡ true → has_label_item bytes ≡ false →
    without_label_items (with_item bytes values) ≡ prepared bytes

-- the same values put in again give the same bytes
abbrev pub ItemsArePutAgain : Type 0
ItemsArePutAgain = (bytes : List ℕ) (values : List (List ℕ)) →
    list_all is_value values ≡ true → has_label_item bytes ≡ false →
    with_item (without_label_items (with_item bytes values)) values ≡ with_item bytes values

-- a label item holds the line of this number
abbrev pub is_in_label_item : List Item → ℕ → Bool
is_in_label_item items number =
    list_any (λ item. item.label && nat_le item.first number && nat_lt number item.past) items

-- the lines from this number on, without those of label items
abbrev pub lines_left : List Item → ℕ → List (List ℕ) → List (List ℕ)
lines_left items number [] = []
lines_left items number (line ∷ lines) =
    if is_in_label_item items number then lines_left items (number + 1) lines
    else line ∷ lines_left items (number + 1) lines

-- what is taken out are the lines of label items, and every other line stays in its place in the order
abbrev pub OnlyLabelItemsGo : Type 0
OnlyLabelItemsGo = (bytes : List ℕ) →
    without_label_items bytes ≡ concat (lines_left (items_of bytes) 0 (body_lines (lines_of bytes))) ++ closing bytes

-- a record without its label items has none
abbrev pub NoLabelItemStays : Type 0
NoLabelItemStays = (bytes : List ℕ) → has_label_item (without_label_items bytes) ≡ false

-- with no label item in it, a record stays as it is
abbrev pub OthersStay : Type 0
OthersStay = (bytes : List ℕ) → has_label_item bytes ≡ false → without_label_items bytes ≡ bytes

-- an item has the line ends of the record's first line: CRLF where the bytes before its LF end in CR, LF otherwise;
-- where the record has no LF, all its bytes are that line
abbrev pub LineEndsAreOfTheFirstLine : Type 0
LineEndsAreOfTheFirstLine = (bytes : List ℕ) →
    has_returns false bytes ≡ ends_with_byte carriage_return (take_while (λ b. not (b == line_feed)) bytes)

-- the last of some lines isn't blank
abbrev pub ends_filled : List (List ℕ) → Bool
ends_filled [] = false
ends_filled (content ∷ []) = not (is_blank content)
ends_filled (content ∷ next ∷ contents) = ends_filled (next ∷ contents)

-- the lines after the first `M  END` line
abbrev pub behind_molecule : List (List ℕ) → List (List ℕ)
behind_molecule [] = []
behind_molecule (content ∷ contents) = if is_molecule_end content then contents else behind_molecule contents

-- an item has an empty line before it where the last line after the molecule isn't blank: there another item would
-- go on
abbrev pub GapsFollowOtherItems : Type 0
GapsFollowOtherItems = (contents : List (List ℕ)) →
    needs_gap false false contents ≡ ends_filled (behind_molecule contents)

-- a record is its body with its closing after it, and with an item it begins with its body
pub record BodiesStay : Type 0 where
  pub parts : (bytes : List ℕ) → body bytes ++ closing bytes ≡ bytes
  pub front : (bytes : List ℕ) (values : List (List ℕ))
      → (more : List ℕ) × (with_item bytes values ≡ body bytes ++ more)
