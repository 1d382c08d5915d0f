-- The items of a record while its lines are taken one by one. Own.
use Rattle.std.specs.Prelude.{ℕ, List, [], ◌∷◌, ◌++◌, ◌+◌, Bool, true, false, not, ◌&&◌, length, if◌then◌else◌}
use Rattle.cip_item.specs.Parts.{is_label_item}
use Rattle.cip_item.specs.Items.{end_of_item, items_from}
use Rattle.cip_item.specs.declared.sections.Part.{Part}
use Rattle.cip_item.specs.declared.sections.Part.TheVariants.{Molecule, Between, OtherItem, LabelItem}
use Rattle.cip_item.specs.declared.items.Item.{Item}
use Rattle.cip_item.specs.declared.items.Splitter.{Splitter}

abbrev pub is_item : Part → Bool
is_item Molecule = false
is_item Between = false
is_item OtherItem = true
is_item LabelItem = true

-- the open item, where it ends before the line of this number
abbrev pub open_item : Splitter → ℕ → Item
open_item splitter past = record { first = splitter.first; past = past; label = is_label_item splitter.part }

-- the items that are closed, the one that is open, and those of the lines to come
abbrev pub items_with : Splitter → List (List ℕ) → List Item
items_with splitter contents =
    if is_item splitter.part
    then splitter.items ++ open_item splitter (end_of_item splitter.number contents)
    ∷ items_from splitter.part splitter.number contents
    else splitter.items ++ items_from splitter.part splitter.number contents

-- the item that ends where this part is open next
abbrev pub closed_before : Splitter → Part → List Item
closed_before splitter next =
    if is_item splitter.part && not (is_item next) then open_item splitter splitter.number ∷ [] else []

-- how many items began so far
abbrev pub begun : Splitter → ℕ
begun splitter = length splitter.items + (if is_item splitter.part then 1 else 0)
