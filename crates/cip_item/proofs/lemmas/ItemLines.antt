-- The lines of an item that is put in.
use Rattle.std.proofs.Common.{◌≡◌, ◌++◌, ℕ, List, [], ◌∷◌, Bool, true, false, not, ◌==◌, ◌&&◌, refl, sym, arith, map, append_assoc, append-nil}
use Rattle.std.specs.List.{concat, flat_map, list_all, list_any}
use Rattle.std.proofs.lemmas.Bool.{and_parts, not-true}
use Rattle.std.proofs.lemmas.List.{map-append}
use Rattle.cip_text.specs.Lines.{content_of}
use Rattle.cip_text.specs.Kinds.{is_blank, is_terminator}
use Rattle.cip_text.specs.Laws.{has_line_feed, is_ended}
use Rattle.cip_text.specs.Kinds.{is_molecule_end}
use Rattle.cip_item.specs.Kinds.{is_label_heading}
use Rattle.cip_item.specs.Parts.{part_of, next_part, kept_lines}
use Rattle.cip_item.specs.Putting.{heading, item, is_value}
use Rattle.cip_item.specs.declared.sections.Part.{Part}
use Rattle.cip_item.specs.declared.sections.Part.TheVariants.{Molecule, Between, OtherItem, LabelItem}
use Rattle.cip_text.proofs.lemmas.Ended.{end_as, ends, end_ended}
use Rattle.cip_item.proofs.lemmas.Headings.{label_heading_filled}
use Rattle.cip_text.proofs.lemmas.LastBytes.{last_lacks, content_before_end, content_of_end}
use Rattle.cip_item.proofs.lemmas.Walking.{is_free}

-- a value, one by one

abbrev has_return : List ℕ → Bool
has_return text = list_any (λ b. b == 13) text

record IsValue (value : List ℕ) : Type 0 where
  filled : is_blank value ≡ false
  no_feed : has_line_feed value ≡ false
  no_return : has_return value ≡ false
  no_terminator : is_terminator value ≡ false
  no_molecule_end : is_molecule_end value ≡ false

value_is : (value : List ℕ) → is_value value ≡ true → IsValue value
value_is value h =
    let a = and_parts (not (is_blank value) && not (has_line_feed value) && not (has_return value)
    && not (is_terminator value)) (not (is_molecule_end value)) h in
    let b = and_parts (not (is_blank value) && not (has_line_feed value) && not (has_return value))
    (not (is_terminator value)) a.0 in
    let c = and_parts (not (is_blank value) && not (has_line_feed value)) (not (has_return value)) b.0 in
    let d = and_parts (not (is_blank value)) (not (has_line_feed value)) c.0 in
    record {
      filled = not-true (is_blank value) d.0;
      no_feed = not-true (has_line_feed value) d.1;
      no_return = not-true (has_return value) c.1;
      no_terminator = not-true (is_terminator value) b.1;
      no_molecule_end = not-true (is_molecule_end value) a.1;
    }

-- the heading

heading_begins : is_label_heading heading ≡ true
unfolding heading
heading_begins = refl

heading_no_feed : has_line_feed heading ≡ false
unfolding heading
heading_no_feed = refl

heading_no_return : has_return heading ≡ false
unfolding heading
heading_no_return = refl

heading_no_terminator : is_terminator heading ≡ false
unfolding heading
heading_no_terminator = refl

heading_no_molecule_end : is_molecule_end heading ≡ false
unfolding heading
heading_no_molecule_end = refl

-- the lines, and the text that they are

abbrev value_lines : Bool → List (List ℕ) → List (List ℕ)
value_lines returns values = map (λ value. value ++ end_as returns) values

abbrev pub item_lines : Bool → List (List ℕ) → List (List ℕ)
item_lines returns values = (heading ++ end_as returns) ∷ (value_lines returns values ++ end_as returns ∷ [])

values_text : (returns : Bool) (values : List (List ℕ)) →
    concat (value_lines returns values ++ end_as returns ∷ [])
    ≡ flat_map (λ value. value ++ end_as returns) values ++ end_as returns
values_text returns [] = append-nil (end_as returns)
values_text returns (value ∷ values) =
    rw (values_text returns values) (sym (append_assoc (value ++ end_as returns)
    (flat_map (λ value. value ++ end_as returns) values) (end_as returns)))

pub item_text : (returns : Bool) (values : List (List ℕ))
    → concat (item_lines returns values) ≡ item (end_as returns) values
item_text returns values =
    rw (values_text returns values) (append_assoc heading (end_as returns)
    (flat_map (λ value. value ++ end_as returns) values ++ end_as returns))

values_ended : (returns : Bool) (values : List (List ℕ)) → list_all is_value values ≡ true
    → list_all is_ended (value_lines returns values ++ end_as returns ∷ []) ≡ true
values_ended returns [] h = rw (end_ended returns) refl
values_ended returns (value ∷ values) h =
    let each = and_parts (is_value value) (list_all is_value values) h in
    rw (ends value returns (value_is value each.0).no_feed) (values_ended returns values each.1)

pub item_ended : (returns : Bool) (values : List (List ℕ)) → list_all is_value values ≡ true
    → list_all is_ended (item_lines returns values) ≡ true
item_ended returns values h = rw (ends heading returns heading_no_feed) (values_ended returns values h)

-- their contents

values_contents : (returns : Bool) (values : List (List ℕ)) → list_all is_value values ≡ true
    → map content_of (value_lines returns values) ≡ values
values_contents returns [] h = refl
values_contents returns (value ∷ values) h =
    let each = and_parts (is_value value) (list_all is_value values) h in
    rw (
      content_before_end value returns (last_lacks 13 value (value_is value each.0).no_return),
      values_contents returns values each.1,
    ) refl

heading_content : (returns : Bool) → content_of (heading ++ end_as returns) ≡ heading
heading_content returns = content_before_end heading returns (last_lacks 13 heading heading_no_return)

abbrev pub item_contents : List (List ℕ) → List (List ℕ)
item_contents values = heading ∷ (values ++ [] ∷ [])

pub contents_of_item : (returns : Bool) (values : List (List ℕ)) → list_all is_value values ≡ true
    → map content_of (item_lines returns values) ≡ item_contents values
contents_of_item returns values h =
    rw (
      heading_content returns,
      map-append content_of (value_lines returns values) (end_as returns ∷ []),
      values_contents returns values h,
      content_of_end returns,
    ) refl

abbrev pub no_terminators : List (List ℕ) → Bool
no_terminators contents = list_all (λ content. not (is_terminator content)) contents

values_no_terminators : (values : List (List ℕ)) → list_all is_value values ≡ true
    → no_terminators (values ++ [] ∷ []) ≡ true
values_no_terminators [] h = refl
values_no_terminators (value ∷ values) h =
    let each = and_parts (is_value value) (list_all is_value values) h in
    rw (value_is value each.0).no_terminator (values_no_terminators values each.1)

pub item_no_terminators : (values : List (List ℕ)) → list_all is_value values ≡ true
    → no_terminators (item_contents values) ≡ true
item_no_terminators values h = rw heading_no_terminator (values_no_terminators values h)

values_no_molecule_end : (values : List (List ℕ)) → list_all is_value values ≡ true
    → list_any is_molecule_end (values ++ [] ∷ []) ≡ false
values_no_molecule_end [] h = refl
values_no_molecule_end (value ∷ values) h =
    let each = and_parts (is_value value) (list_all is_value values) h in
    rw (value_is value each.0).no_molecule_end (values_no_molecule_end values each.1)

pub item_no_molecule_end : (values : List (List ℕ)) → list_all is_value values ≡ true
    → list_any is_molecule_end (item_contents values) ≡ false
item_no_molecule_end values h = rw heading_no_molecule_end (values_no_molecule_end values h)

-- none of the lines is kept

values_taken : (returns : Bool) (values : List (List ℕ)) → list_all is_value values ≡ true
    → kept_lines LabelItem (value_lines returns values ++ end_as returns ∷ []) ≡ []
values_taken returns [] h = refl
values_taken returns (value ∷ values) h =
    let each = and_parts (is_value value) (list_all is_value values) h in
    let is = value_is value each.0 in
    rw (content_before_end value returns (last_lacks 13 value is.no_return), is.filled)
    (values_taken returns values each.1)

heading_part : (before : Part) → is_free before ≡ true → part_of before heading ≡ LabelItem
heading_part Molecule h = absurd (grind (arith, h))
heading_part Between h = rw heading_begins refl
heading_part OtherItem h = rw heading_begins refl
heading_part LabelItem h = absurd (grind (arith, h))

pub item_taken : (before : Part) (returns : Bool) (values : List (List ℕ)) → is_free before ≡ true
    → list_all is_value values ≡ true → kept_lines before (item_lines returns values) ≡ []
item_taken before returns values free h = rw (
  heading_content returns,
  heading_part before free,
  label_heading_filled heading heading_begins,
) (values_taken returns values h)

-- an empty line before them is

pub gap_kept : (before : Part) (returns : Bool) → is_free before ≡ true
    → kept_lines before (end_as returns ∷ []) ≡ end_as returns ∷ []
gap_kept Molecule returns h = absurd (grind (arith, h))
gap_kept Between returns h = rw (content_of_end returns) refl
gap_kept OtherItem returns h = rw (content_of_end returns) refl
gap_kept LabelItem returns h = absurd (grind (arith, h))

pub free_behind_gap : (before : Part) (returns : Bool) → is_free before ≡ true
    → is_free (next_part before (content_of (end_as returns))) ≡ true
free_behind_gap Molecule returns h = absurd (grind (arith, h))
free_behind_gap Between returns h = rw (content_of_end returns) refl
free_behind_gap OtherItem returns h = rw (content_of_end returns) refl
free_behind_gap LabelItem returns h = absurd (grind (arith, h))
