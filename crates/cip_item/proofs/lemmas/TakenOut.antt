-- Taking out an item that was put in.
use Rattle.std.proofs.Common.{◌≡◌, ◌++◌, ℕ, List, [], ◌∷◌, Bool, true, false, not, if◌then◌else◌, refl, ◌∙◌, ap, map, subst, append_assoc, append-nil}
use Rattle.std.specs.List.{concat, list_all, list_any}
use Rattle.std.proofs.lemmas.List.{map-append}
use Rattle.std.proofs.lemmas.List.Folds.{list_all-append, list_any-append, concat-append}
use Rattle.std.proofs.Math.Bool.{or-false}
use Rattle.cip_text.specs.Lines.{lines_of, content_of}
use Rattle.cip_text.specs.Kinds.{is_terminator}
use Rattle.cip_text.specs.Laws.{is_ended, are_ended}
use Rattle.cip_text.proofs.lemmas.Ends as texts
use Rattle.cip_text.specs.Kinds.{is_molecule_end}
use Rattle.cip_text.specs.Bodies.{body_lines, body_contents}
use Rattle.cip_item.specs.Parts.{next_part, first_part, kept_lines, without_label_items, has_label_part, has_label_item}
use Rattle.cip_text.specs.Bodies.{body, closing}
use Rattle.cip_item.specs.Putting.{line_end_for, has_returns, missing_end, needs_gap, gap, item, with_item, prepared, is_value}
use Rattle.cip_item.specs.Laws.{ItemsAreTakenOut}
use Rattle.cip_item.specs.declared.sections.Part.{Part}
use Rattle.cip_item.proofs.lemmas.Closed.{closed, closed_contents, closed_ended, closed_text}
use Rattle.cip_text.proofs.lemmas.Ended.{end_as, end_ended, body_ended}
use Rattle.cip_item.proofs.lemmas.ItemLines.{item_lines, item_text, item_ended, item_contents, contents_of_item, no_terminators, item_no_terminators, item_no_molecule_end, item_taken, gap_kept, free_behind_gap}
use Rattle.cip_text.proofs.lemmas.LastBytes.{content_of_end}
use Rattle.cip_item.proofs.lemmas.Made.{IsMade, made, body_no_terminators}
use Rattle.cip_item.proofs.lemmas.Walking.{behind, is_free, all_kept, both_kept, free_record}

-- an empty line, where one is put in

abbrev pub gap_lines : Bool → Bool → List (List ℕ)
gap_lines returns needed = if needed then end_as returns ∷ [] else []

abbrev pub gap_contents : Bool → List (List ℕ)
gap_contents needed = if needed then [] ∷ [] else []

gap_text : (returns needed : Bool) → concat (gap_lines returns needed) ≡ (if needed then end_as returns else [])
gap_text returns true = append-nil (end_as returns)
gap_text returns false = refl

gap_ended : (returns needed : Bool) → list_all is_ended (gap_lines returns needed) ≡ true
gap_ended returns true = rw (end_ended returns) refl
gap_ended returns false = refl

contents_of_gap : (returns needed : Bool) → map content_of (gap_lines returns needed) ≡ gap_contents needed
contents_of_gap returns true = rw (content_of_end returns) refl
contents_of_gap returns false = refl

gap_no_terminators : (needed : Bool) → no_terminators (gap_contents needed) ≡ true
gap_no_terminators true = refl
gap_no_terminators false = refl

gap_no_molecule_end : (needed : Bool) → list_any is_molecule_end (gap_contents needed) ≡ false
gap_no_molecule_end true = refl
gap_no_molecule_end false = refl

-- the lines before the item

abbrev pub returns_of : List ℕ → Bool
returns_of bytes = has_returns false bytes

abbrev pub gap_of : List ℕ → Bool
gap_of bytes = needs_gap false false (body_contents bytes)

abbrev pub closed_body : List ℕ → List (List ℕ)
closed_body bytes = closed (end_as (returns_of bytes)) (body_lines (lines_of bytes))

abbrev pub front : List ℕ → List (List ℕ)
front bytes = closed_body bytes ++ gap_lines (returns_of bytes) (gap_of bytes)

are_body_lines_ended : (bytes : List ℕ) → are_ended (body_lines (lines_of bytes)) ≡ true
are_body_lines_ended bytes = body_ended (lines_of bytes) (texts.lines_ended bytes)

pub front_text : (bytes : List ℕ) → concat (front bytes)
    ≡ body bytes ++ (missing_end (line_end_for bytes) (body bytes) ++ gap (line_end_for bytes) bytes)
front_text bytes =
    concat-append (closed_body bytes) (gap_lines (returns_of bytes) (gap_of bytes))
    ∙ rw (
      closed_text (end_as (returns_of bytes)) (body_lines (lines_of bytes)) (are_body_lines_ended bytes),
      gap_text (returns_of bytes) (gap_of bytes),
    )
    (append_assoc (body bytes) (missing_end (line_end_for bytes) (body bytes)) (gap (line_end_for bytes) bytes))

pub front_ended : (bytes : List ℕ) → list_all is_ended (front bytes) ≡ true
front_ended bytes =
    rw (
      list_all-append is_ended (closed_body bytes) (gap_lines (returns_of bytes) (gap_of bytes)),
      closed_ended (returns_of bytes) (body_lines (lines_of bytes)) (are_body_lines_ended bytes),
    )
    (gap_ended (returns_of bytes) (gap_of bytes))

closed_body_contents : (bytes : List ℕ) → map content_of (closed_body bytes) ≡ body_contents bytes
closed_body_contents bytes = closed_contents (returns_of bytes) (body_lines (lines_of bytes))
    (are_body_lines_ended bytes)

pub front_contents : (bytes : List ℕ) → map content_of (front bytes)
    ≡ body_contents bytes ++ gap_contents (gap_of bytes)
front_contents bytes =
    rw (
      map-append content_of (closed_body bytes) (gap_lines (returns_of bytes) (gap_of bytes)),
      closed_body_contents bytes,
      contents_of_gap (returns_of bytes) (gap_of bytes),
    ) refl

pub front_no_terminators : (bytes : List ℕ) → no_terminators (body_contents bytes ++ gap_contents (gap_of bytes)) ≡ true
front_no_terminators bytes =
    rw (
      list_all-append (λ content. not (is_terminator content)) (body_contents bytes) (gap_contents (gap_of bytes)),
      body_no_terminators (lines_of bytes),
    ) (gap_no_terminators (gap_of bytes))

-- the lines with the item

abbrev pub all_lines : List ℕ → List (List ℕ) → List (List ℕ)
all_lines bytes values = front bytes ++ item_lines (returns_of bytes) values

pub four_joined : (a b c d : List ℕ) → (a ++ (b ++ c)) ++ d ≡ a ++ (b ++ (c ++ d))
four_joined a b c d = rw (append_assoc a (b ++ c) d, append_assoc b c d) refl

all_text : (bytes : List ℕ) (values : List (List ℕ))
    → concat (all_lines bytes values) ++ closing bytes ≡ with_item bytes values
all_text bytes values =
    ap (λ xs. xs ++ closing bytes) (concat-append (front bytes) (item_lines (returns_of bytes) values))
    ∙ append_assoc (concat (front bytes)) (concat (item_lines (returns_of bytes) values)) (closing bytes)
    ∙ ap (λ xs. concat (front bytes) ++ (xs ++ closing bytes)) (item_text (returns_of bytes) values)
    ∙ ap (λ xs. xs ++ (item (line_end_for bytes) values ++ closing bytes)) (front_text bytes)
    ∙ four_joined (body bytes) (missing_end (line_end_for bytes) (body bytes)) (gap (line_end_for bytes) bytes)
    (item (line_end_for bytes) values ++ closing bytes)

pub all_contents : (bytes : List ℕ) (values : List (List ℕ)) → list_all is_value values ≡ true →
    map content_of (all_lines bytes values) ≡ (body_contents bytes ++ gap_contents (gap_of bytes))
    ++ item_contents values
all_contents bytes values h =
    map-append content_of (front bytes) (item_lines (returns_of bytes) values)
    ∙ ap (λ xs. xs ++ map content_of (item_lines (returns_of bytes) values)) (front_contents bytes)
    ∙ ap (λ xs. (body_contents bytes ++ gap_contents (gap_of bytes)) ++ xs)
    (contents_of_item (returns_of bytes) values h)

all_ended : (bytes : List ℕ) (values : List (List ℕ)) → list_all is_value values ≡ true
    → list_all is_ended (all_lines bytes values) ≡ true
all_ended bytes values h = list_all-append is_ended (front bytes) (item_lines (returns_of bytes) values)
    ∙ rw (front_ended bytes) (item_ended (returns_of bytes) values h)

all_no_terminators : (bytes : List ℕ) (values : List (List ℕ)) → list_all is_value values ≡ true
    → no_terminators (map content_of (all_lines bytes values)) ≡ true
all_no_terminators bytes values h =
    ap no_terminators (all_contents bytes values h)
    ∙ list_all-append (λ content. not (is_terminator content)) (body_contents bytes ++ gap_contents (gap_of bytes))
    (item_contents values)
    ∙ rw (front_no_terminators bytes) (item_no_terminators values h)

pub made_with_item : (bytes : List ℕ) (values : List (List ℕ)) → list_all is_value values ≡ true
    → IsMade (all_lines bytes values) bytes (with_item bytes values)
made_with_item bytes values h =
    subst (IsMade (all_lines bytes values) bytes) (all_text bytes values)
    (made (all_lines bytes values) bytes (all_ended bytes values h) (all_no_terminators bytes values h))

-- which of them are kept

none_more : (contents more : List (List ℕ)) → list_any is_molecule_end more ≡ false
    → list_any is_molecule_end (contents ++ more) ≡ list_any is_molecule_end contents
none_more contents more h = list_any-append is_molecule_end contents more
    ∙ rw h (or-false (list_any is_molecule_end contents))

same_first : (contents others : List (List ℕ)) → list_any is_molecule_end contents ≡ list_any is_molecule_end others
    → first_part contents ≡ first_part others
same_first contents others h = rw h refl

all_first : (bytes : List ℕ) (values : List (List ℕ)) → list_all is_value values ≡ true
    → first_part (map content_of (all_lines bytes values)) ≡ first_part (body_contents bytes)
all_first bytes values h =
    ap first_part (all_contents bytes values h)
    ∙ same_first ((body_contents bytes ++ gap_contents (gap_of bytes)) ++ item_contents values) (body_contents bytes)
    (none_more (body_contents bytes ++ gap_contents (gap_of bytes)) (item_contents values)
    (item_no_molecule_end values h)
    ∙ none_more (body_contents bytes) (gap_contents (gap_of bytes)) (gap_no_molecule_end (gap_of bytes)))

behind_body : (free : Part) (returns needed : Bool) (values : List (List ℕ)) → is_free free ≡ true
    → list_all is_value values ≡ true →
    kept_lines free (gap_lines returns needed ++ item_lines returns values) ≡ gap_lines returns needed
behind_body free returns true values f h =
    let taken : kept_lines (next_part free (content_of (end_as returns))) (item_lines returns values) ≡ [] =
    item_taken (next_part free (content_of (end_as returns))) returns values (free_behind_gap free returns f) h in
    both_kept free (end_as returns ∷ []) (item_lines returns values) ∙ rw (gap_kept free returns f, taken) refl
behind_body free returns false values f h = item_taken free returns values f h

front_kept : (before : Part) (lines : List (List ℕ)) (returns needed : Bool) (values : List (List ℕ))
    → has_label_part before (map content_of lines) ≡ false →
    is_free (behind before (map content_of lines)) ≡ true → list_all is_value values ≡ true →
    kept_lines before ((lines ++ gap_lines returns needed) ++ item_lines returns values)
    ≡ lines ++ gap_lines returns needed
front_kept before lines returns needed values n f h =
    ap (kept_lines before) (append_assoc lines (gap_lines returns needed) (item_lines returns values))
    ∙ both_kept before lines (gap_lines returns needed ++ item_lines returns values)
    ∙ rw (all_kept before lines n, behind_body (behind before (map content_of lines)) returns needed values f h) refl

record_kept : (bytes : List ℕ) (values : List (List ℕ)) → list_all is_value values ≡ true
    → has_label_item bytes ≡ false →
    kept_lines (first_part (body_contents bytes)) (all_lines bytes values) ≡ front bytes
record_kept bytes values h n =
    front_kept (first_part (body_contents bytes)) (closed_body bytes) (returns_of bytes) (gap_of bytes) values
    (ap (has_label_part (first_part (body_contents bytes))) (closed_body_contents bytes) ∙ n)
    (ap (λ contents. is_free (behind (first_part (body_contents bytes)) contents)) (closed_body_contents bytes)
    ∙ free_record (body_contents bytes) n) h

kept_of : (bytes text : List ℕ) (lines : List (List ℕ)) (before : Part) → IsMade lines bytes text
    → first_part (map content_of lines) ≡ before →
    without_label_items text ≡ concat (kept_lines before lines) ++ closing bytes
kept_of bytes text lines before m f = rw (m.body, f, m.closing) refl

pub prepared_text : (bytes : List ℕ) → concat (front bytes) ++ closing bytes ≡ prepared bytes
prepared_text bytes =
    ap (λ xs. xs ++ closing bytes) (front_text bytes)
    ∙ four_joined (body bytes) (missing_end (line_end_for bytes) (body bytes)) (gap (line_end_for bytes) bytes)
    (closing bytes)

pub items_are_taken_out : ItemsAreTakenOut
items_are_taken_out bytes values h n =
    kept_of bytes (with_item bytes values) (all_lines bytes values) (first_part (body_contents bytes))
    (made_with_item bytes values h) (all_first bytes values h)
    ∙ ap (λ lines. concat lines ++ closing bytes) (record_kept bytes values h n)
    ∙ prepared_text bytes
