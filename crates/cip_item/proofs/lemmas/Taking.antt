-- One more line of a record while its items are listed.
use Rattle.std.proofs.Common.{◌≡◌, ◌+◌, ◌++◌, ℕ, List, [], ◌∷◌, Bool, true, false, ◌||◌, refl, arith, append_assoc, append-nil}
use Rattle.std.proofs.lemmas.Bool.{or_parts}
use Rattle.cip_text.specs.Kinds.{is_blank}
use Rattle.cip_text.specs.Kinds.{is_molecule_end}
use Rattle.cip_item.specs.Kinds.{is_heading, is_label_heading}
use Rattle.cip_item.specs.Parts.{part_of, part_behind}
use Rattle.cip_item.specs.Items.{begins_item, end_of_item, items_from}
use Rattle.cip_item.specs.Splitting.{items_with, closed_before}
use Rattle.cip_item.specs.declared.sections.Part.{Part}
use Rattle.cip_item.specs.declared.sections.Part.TheVariants.{Molecule, Between, OtherItem, LabelItem}
use Rattle.cip_item.specs.declared.items.Item.{Item}
use Rattle.cip_item.specs.declared.items.Splitter.{Splitter}

abbrev stated : List Item → Part → ℕ → ℕ → Splitter
stated items part first number = record { items = items; part = part; first = first; number = number }

-- where the line begins an item

abbrev Begins : List Item → Part → ℕ → ℕ → List ℕ → List (List ℕ) → Type 0
Begins items part first number content contents =
    items_with (stated (items ++ closed_before (stated items part first number) Between) (part_of part content) number
    (number + 1)) contents
    ≡ items_with (stated items part first number) (content ∷ contents)

begin_between : (items : List Item) (first number : ℕ) (content : List ℕ) (contents : List (List ℕ)) (a b : Bool)
    → is_label_heading content ≡ a → is_heading content ≡ b →
    (a || b) ≡ true → Begins items Between first number content contents
begin_between items first number content contents true b e f h = rw (append-nil items, e) refl
begin_between items first number content contents false true e f h = rw (append-nil items, e, f) refl
begin_between items first number content contents false false e f h = absurd (grind (arith, h))

begin_behind : (items : List Item) (label : Bool) (first number : ℕ) (contents : List (List ℕ)) →
    (items ++ record { first = first; past = number; label = label } ∷ [])
    ++ record { first = number; past = end_of_item (number + 1) contents; label = true } ∷ items_from LabelItem
    (number + 1) contents
    ≡ items ++ record { first = first; past = number; label = label } ∷ record
    { first = number; past = end_of_item (number + 1) contents; label = true } ∷ items_from LabelItem
    (number + 1) contents
begin_behind items label first number contents =
    append_assoc items (record { first = first; past = number; label = label } ∷ [])
    (record { first = number; past = end_of_item (number + 1) contents; label = true } ∷ items_from LabelItem
    (number + 1) contents)

pub begin_item : (items : List Item) (part : Part) (first number : ℕ) (content : List ℕ) (contents : List (List ℕ))
    → begins_item part content ≡ true → Begins items part first number content contents
begin_item items Molecule first number content contents h = absurd (grind (arith, h))
begin_item items Between first number content contents h =
    begin_between items first number content contents (is_label_heading content) (is_heading content) refl refl h
begin_item items OtherItem first number content contents h = rw h (begin_behind items false first number contents)
begin_item items LabelItem first number content contents h = rw h (begin_behind items true first number contents)

-- where it begins none

abbrev GoesOn : List Item → Part → ℕ → ℕ → List ℕ → List (List ℕ) → Type 0
GoesOn items part first number content contents =
    items_with (stated (items ++ closed_before (stated items part first (number + 1)) (part_behind part content))
    (part_behind part content) first (number + 1)) contents
    ≡ items_with (stated items part first number) (content ∷ contents)

on_other : (items : List Item) (first number : ℕ) (content : List ℕ) (contents : List (List ℕ)) (k : Bool)
    → is_blank content ≡ k → is_label_heading content ≡ false →
    GoesOn items OtherItem first number content contents
on_other items first number content contents true e h =
    rw (h, e) (append_assoc items (record { first = first; past = number + 1; label = false } ∷ [])
    (items_from Between (number + 1) contents))
on_other items first number content contents false e h = rw (h, e, append-nil items) refl

on_label : (items : List Item) (first number : ℕ) (content : List ℕ) (contents : List (List ℕ)) (k : Bool)
    → is_blank content ≡ k → is_label_heading content ≡ false →
    GoesOn items LabelItem first number content contents
on_label items first number content contents true e h =
    rw (h, e) (append_assoc items (record { first = first; past = number + 1; label = true } ∷ [])
    (items_from Between (number + 1) contents))
on_label items first number content contents false e h = rw (h, e, append-nil items) refl

on_molecule : (items : List Item) (first number : ℕ) (content : List ℕ) (contents : List (List ℕ)) (k : Bool)
    → is_molecule_end content ≡ k → GoesOn items Molecule first number content contents
on_molecule items first number content contents true e = rw (e, append-nil items) refl
on_molecule items first number content contents false e = rw (e, append-nil items) refl

pub go_on : (items : List Item) (part : Part) (first number : ℕ) (content : List ℕ) (contents : List (List ℕ))
    → begins_item part content ≡ false → GoesOn items part first number content contents
go_on items Molecule first number content contents h =
    on_molecule items first number content contents (is_molecule_end content) refl
go_on items Between first number content contents h =
    let both = or_parts (is_label_heading content) (is_heading content) h in
    rw (both.0, both.1, append-nil items) refl
go_on items OtherItem first number content contents h =
    on_other items first number content contents (is_blank content) refl h
go_on items LabelItem first number content contents h =
    on_label items first number content contents (is_blank content) refl h
