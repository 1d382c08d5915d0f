-- The lines of label items, by their numbers.
use Rattle.std.proofs.Common.{◌≡◌, ◌≤◌, ◌<◌, ◌+◌, ◌++◌, ℕ, List, [], ◌∷◌, Bool, true, false, refl, sym, ◌∙◌, ap, arith, map}
use Rattle.std.specs.List.{concat, list_any}
use Rattle.std.proofs.lemmas.Bool.{le-leb, le-ltb, lt-leb, lt-ltb}
use Rattle.cip_text.specs.Kinds.{is_blank}
use Rattle.cip_text.specs.Lines.{lines_of, content_of}
use Rattle.cip_text.specs.Kinds.{is_molecule_end}
use Rattle.cip_item.specs.Kinds.{is_heading, is_label_heading}
use Rattle.cip_text.specs.Bodies.{body_lines, body_contents}
use Rattle.cip_item.specs.Parts.{part_of, next_part, first_part, is_label_item, kept_lines}
use Rattle.cip_text.specs.Bodies.{closing}
use Rattle.cip_item.specs.Items.{begins_item, end_of_item, items_from, items_of}
use Rattle.cip_item.specs.Laws.{is_in_label_item, lines_left, OnlyLabelItemsGo}
use Rattle.cip_item.specs.declared.sections.Part.{Part}
use Rattle.cip_item.specs.declared.sections.Part.TheVariants.{Molecule, Between, OtherItem, LabelItem}
use Rattle.cip_item.specs.declared.items.Item.{Item}
use Rattle.cip_item.proofs.lemmas.Headings.{heading_filled, label_heading_filled}

-- which lines one item holds

abbrev item_at : ℕ → ℕ → Bool → Item
item_at first past label = record { first = first; past = past; label = label }

holds : (items : List Item) (first past m : ℕ) → first ≤ m → m < past
    → is_in_label_item (item_at first past true ∷ items) m ≡ true
holds items first past m f p = rw (le-leb first m f, lt-ltb m past p) refl

holds_before : (items : List Item) (first past m : ℕ) (label : Bool) → m < first
    → is_in_label_item (item_at first past label ∷ items) m ≡ is_in_label_item items m
holds_before items first past m true f = rw (lt-leb first m f) refl
holds_before items first past m false f = refl

holds_behind : (items : List Item) (first past m : ℕ) → first ≤ m → past ≤ m
    → is_in_label_item (item_at first past true ∷ items) m ≡ is_in_label_item items m
holds_behind items first past m f p = rw (le-leb first m f, le-ltb m past p) refl

-- items begin at the lines to come, and end after them

none_line : (before : Part) (number : ℕ) (content : List ℕ) (contents : List (List ℕ)) (m : ℕ) (k : Bool)
    → begins_item before content ≡ k → m < number →
    is_in_label_item (items_from (part_of before content) (number + 1) contents) m ≡ false
    → is_in_label_item (items_from (next_part before content) (number + 1) contents) m ≡ false →
    is_in_label_item (items_from before number (content ∷ contents)) m ≡ false
none_line before number content contents m true e less begun more =
    rw e (holds_before (items_from (part_of before content) (number + 1) contents) number
    (end_of_item (number + 1) contents) m (is_label_heading content) less ∙ begun)
none_line before number content contents m false e less begun more = rw e more

none_before : (before : Part) (number : ℕ) (contents : List (List ℕ)) (m : ℕ) → m < number
    → is_in_label_item (items_from before number contents) m ≡ false
none_before before number [] m less = refl
none_before before number (content ∷ contents) m less =
    none_line before number content contents m (begins_item before content) refl less
    (none_before (part_of before content) (number + 1) contents m (omega arith))
    (none_before (next_part before content) (number + 1) contents m (omega arith))

end_line : (number : ℕ) (content : List ℕ) (contents : List (List ℕ)) (a k : Bool) → is_label_heading content ≡ a
    → is_blank content ≡ k →
    number + 1 ≤ end_of_item (number + 1) contents → number ≤ end_of_item number (content ∷ contents)
end_line number content contents true k e f more = rw e (omega arith)
end_line number content contents false true e f more = rw (e, f) (omega arith)
end_line number content contents false false e f more = rw (e, f) (omega (arith, more))

ends_behind : (number : ℕ) (contents : List (List ℕ)) → number ≤ end_of_item number contents
ends_behind number [] = omega arith
ends_behind number (content ∷ contents) = end_line number content contents (is_label_heading content)
    (is_blank content) refl refl (ends_behind (number + 1) contents)

-- the items from this line on, with the label item that is open
abbrev stated : Part → ℕ → ℕ → List (List ℕ) → List Item
stated Molecule first number contents = items_from Molecule number contents
stated Between first number contents = items_from Between number contents
stated OtherItem first number contents = items_from OtherItem number contents
stated LabelItem first number contents = item_at first
    (end_of_item number contents) true ∷ items_from LabelItem number contents

-- One more line: the items that are known with it hold it exactly where it belongs to a label item, and they hold the
-- lines to come as those known after it do.
record Steps (before : Part) (first number : ℕ) (content : List ℕ) (contents : List (List ℕ)) : Type 0 where
  next : ℕ
  begun : next ≤ number + 1
  here : is_in_label_item (stated before first number (content ∷ contents)) number
      ≡ is_label_item (part_of before content)
  behind : (m : ℕ) → number < m → is_in_label_item (stated before first number (content ∷ contents)) m
      ≡ is_in_label_item (stated (next_part before content) next (number + 1) contents) m

step_molecule : (first number : ℕ) (content : List ℕ) (contents : List (List ℕ)) (k : Bool)
    → is_molecule_end content ≡ k → first ≤ number → Steps Molecule first number content contents
step_molecule first number content contents true e within =
    record {
      next = first;
      begun = omega arith;
      here = rw e (none_before Between (number + 1) contents number (omega arith));
      behind = λ m more. rw e refl;
    }
step_molecule first number content contents false e within =
    record {
      next = first;
      begun = omega arith;
      here = rw e (none_before Molecule (number + 1) contents number (omega arith));
      behind = λ m more. rw e refl;
    }

-- the label item that begins here, and those after it
abbrev begun_here : ℕ → List (List ℕ) → List Item
begun_here number contents = item_at number (end_of_item (number + 1) contents) true ∷ items_from LabelItem
    (number + 1) contents

step_between : (first number : ℕ) (content : List ℕ) (contents : List (List ℕ)) (a b : Bool)
    → is_label_heading content ≡ a → is_heading content ≡ b → first ≤ number →
    Steps Between first number content contents
step_between first number content contents true b e f within =
    record {
      next = number;
      begun = omega arith;
      here = rw e (holds (items_from LabelItem (number + 1) contents) number
          (end_of_item (number + 1) contents) number (omega arith) (omega (arith, ends_behind (number + 1) contents)));
      behind = λ m more. rw (e, label_heading_filled content e) refl;
    }
step_between first number content contents false true e f within =
    record {
      next = first;
      begun = omega arith;
      here = rw (e, f) (none_before OtherItem (number + 1) contents number (omega arith));
      behind = λ m more. rw (e, f, heading_filled content f) refl;
    }
step_between first number content contents false false e f within =
    record {
      next = first;
      begun = omega arith;
      here = rw (e, f) (none_before Between (number + 1) contents number (omega arith));
      behind = λ m more. rw (e, f) refl;
    }

step_other : (first number : ℕ) (content : List ℕ) (contents : List (List ℕ)) (a k : Bool)
    → is_label_heading content ≡ a → is_blank content ≡ k → first ≤ number →
    Steps OtherItem first number content contents
step_other first number content contents true k e g within =
    record {
      next = number;
      begun = omega arith;
      here = rw e (holds (items_from LabelItem (number + 1) contents) number
          (end_of_item (number + 1) contents) number (omega arith) (omega (arith, ends_behind (number + 1) contents)));
      behind = λ m more. rw (e, label_heading_filled content e) refl;
    }
step_other first number content contents false true e g within =
    record {
      next = first;
      begun = omega arith;
      here = rw (e, g) (none_before Between (number + 1) contents number (omega arith));
      behind = λ m more. rw (e, g) refl;
    }
step_other first number content contents false false e g within =
    record {
      next = first;
      begun = omega arith;
      here = rw (e, g) (none_before OtherItem (number + 1) contents number (omega arith));
      behind = λ m more. rw (e, g) refl;
    }

step_label : (first number : ℕ) (content : List ℕ) (contents : List (List ℕ)) (a k : Bool)
    → is_label_heading content ≡ a → is_blank content ≡ k → first ≤ number →
    Steps LabelItem first number content contents
step_label first number content contents true k e g within =
    record {
      next = number;
      begun = omega arith;
      here = rw e (holds_behind (begun_here number contents) first number number within (omega arith)
          ∙ holds (items_from LabelItem (number + 1) contents) number (end_of_item (number + 1) contents) number
          (omega arith) (omega (arith, ends_behind (number + 1) contents)));
      behind = λ m more. rw (e, label_heading_filled content e)
          (holds_behind (begun_here number contents) first number m (omega (arith, within, more))
          (omega (arith, more)));
    }
step_label first number content contents false true e g within =
    record {
      next = first;
      begun = omega arith;
      here = rw (e, g) (holds (items_from Between (number + 1) contents) first (number + 1) number within
          (omega arith));
      behind = λ m more. rw (e, g) (holds_behind (items_from Between (number + 1) contents) first (number + 1) m
          (omega (arith, within, more)) (omega (arith, more)));
    }
step_label first number content contents false false e g within =
    record {
      next = first;
      begun = omega arith;
      here = rw (e, g) (holds (items_from LabelItem (number + 1) contents) first
          (end_of_item (number + 1) contents) number within (omega (arith, ends_behind (number + 1) contents)));
      behind = λ m more. rw (e, g) refl;
    }

step : (before : Part) (first number : ℕ) (content : List ℕ) (contents : List (List ℕ)) → first ≤ number
    → Steps before first number content contents
step Molecule first number content contents within =
    step_molecule first number content contents (is_molecule_end content) refl within
step Between first number content contents within =
    step_between first number content contents (is_label_heading content) (is_heading content) refl refl within
step OtherItem first number content contents within =
    step_other first number content contents (is_label_heading content) (is_blank content) refl refl within
step LabelItem first number content contents within =
    step_label first number content contents (is_label_heading content) (is_blank content) refl refl within

-- from line to line

left : (items : List Item) (before : Part) (first number : ℕ) (lines : List (List ℕ)) → first ≤ number →
    ((m : ℕ) → number ≤ m → is_in_label_item items m
    ≡ is_in_label_item (stated before first number (map content_of lines)) m) →
    kept_lines before lines ≡ lines_left items number lines
left items before first number [] within same = refl
left items before first number (line ∷ lines) within same =
    let s : Steps before first number (content_of line) (map content_of lines) =
    step before first number (content_of line) (map content_of lines) within in
    let here : is_in_label_item items number ≡ is_label_item (part_of before (content_of line)) =
    same number (omega arith) ∙ s.here in
    let more : kept_lines (next_part before (content_of line)) lines ≡ lines_left items (number + 1) lines =
    left items (next_part before (content_of line)) s.next (number + 1) lines s.begun
    (λ m less. same m (omega (arith, less)) ∙ s.behind m (omega (arith, less))) in
    rw (here, more) refl

told_first : (number : ℕ) (contents all : List (List ℕ)) (k : Bool) → list_any is_molecule_end all ≡ k
    → stated (first_part all) 0 number contents ≡ items_from (first_part all) number contents
told_first number contents all true e = rw e refl
told_first number contents all false e = rw e refl

-- what is taken out are the lines of label items
pub only_label_items_go : OnlyLabelItemsGo
only_label_items_go bytes =
    let contents : List (List ℕ) = body_contents bytes in
    ap (λ lines. concat lines ++ closing bytes)
    (left (items_of bytes) (first_part contents) 0 0 (body_lines (lines_of bytes)) (omega arith)
    (λ m less. ap (λ items. is_in_label_item items m)
    (sym (told_first 0 contents contents (list_any is_molecule_end contents) refl))))
