-- Annotating what was annotated.
use Rattle.std.proofs.Common.{◌≡◌, ℕ, List, [], ◌∷◌, ◌++◌, Bool, true, false, refl, sym, ap, ◌∙◌, append-nil}
use Rattle.std.specs.List.{list_any}
use Rattle.std.proofs.lemmas.Bool.{or_parts}
use Rattle.cip_text.specs.Bodies.{body_contents}
use Rattle.cip_text.specs.Kinds.{is_molecule_end}
use Rattle.cip_item.specs.Parts.{without_label_items}
use Rattle.cip_item.specs.Putting.{with_item, prepared, needs_gap}
use Rattle.cip_item.proofs.lemmas.NoLabels.{no_label_item}
use Rattle.cip_laws.proofs.lemmas.put_items.PutAgain.{prepared_contents, items_are_put_again}
use Rattle.cip_item.proofs.lemmas.TakenOut.{gap_of, gap_contents, items_are_taken_out}
use Rattle.cip_print.specs.Values.{values_of}
use Rattle.cip_laws.proofs.lemmas.item_values.Fit.{values_are_fit}
use Rattle.cip_rank.specs.declared.rules.Rules.{Rules}
use Rattle.cip_answer.specs.Answers.{answer_lines, answer_without_items, answer_by}
use Rattle.cip_answer.specs.Laws.{IsComplete}
use Rattle.cip_laws.proofs.lemmas.answered.LinesBehind.{lines_behind}
use Rattle.cip_laws.specs.runs.Repeating.{ItemsComeOut, EndsAsItSays, AnnotatingRepeats}
use Rattle.cip_commands.specs.Telling.{annotated}

-- no empty line is needed where no line ends the molecule

no_gap_line : (content : List ℕ) (contents : List (List ℕ)) → is_molecule_end content ≡ false
    → needs_gap false false contents ≡ false → needs_gap false false (content ∷ contents) ≡ false
no_gap_line content contents e more = rw e more

no_gap : (contents : List (List ℕ)) → list_any is_molecule_end contents ≡ false → needs_gap false false contents ≡ false
no_gap [] h = refl
no_gap (content ∷ contents) h =
    let each = or_parts (is_molecule_end content) (list_any is_molecule_end contents) h in
    no_gap_line content contents each.0 (no_gap contents each.1)

-- an empty line after changes no answer

lines_alike : (rules : Rules) (nodes : ℕ) (contents : List (List ℕ)) (ended needed : Bool)
    → list_any is_molecule_end contents ≡ ended → needs_gap false false contents ≡ needed
    → (ended ≡ true → IsComplete (answer_lines rules nodes contents))
    → answer_lines rules nodes (contents ++ gap_contents needed) ≡ answer_lines rules nodes contents
lines_alike rules nodes contents ended false e n says = ap (answer_lines rules nodes) (append-nil contents)
lines_alike rules nodes contents true true e n says = lines_behind rules nodes contents ([] ∷ []) (says refl)
lines_alike rules nodes contents false true e n says =
    absurd (let none : needs_gap false false contents ≡ false = no_gap contents e in let both = sym n ∙ none in cc)

prepared_answer : (rules : Rules) (nodes : ℕ) (bare : List ℕ)
    → (list_any is_molecule_end (body_contents bare) ≡ true → IsComplete (answer_without_items rules nodes bare))
    → answer_without_items rules nodes (prepared bare) ≡ answer_without_items rules nodes bare
unfolding answer_without_items
prepared_answer rules nodes bare says =
    ap (answer_lines rules nodes) (prepared_contents bare)
    ∙ lines_alike rules nodes (body_contents bare) (list_any is_molecule_end (body_contents bare)) (gap_of bare) refl
    refl says

pub items_come_out : ItemsComeOut
unfolding annotated
items_come_out rules nodes bytes =
    items_are_taken_out (without_label_items bytes) (values_of nodes rules (answer_by rules nodes bytes))
    (values_are_fit nodes rules (answer_by rules nodes bytes)) (no_label_item bytes)

same_answer : (rules : Rules) (nodes : ℕ) (bytes : List ℕ) → EndsAsItSays rules nodes bytes
    → answer_by rules nodes (annotated rules nodes bytes) ≡ answer_by rules nodes bytes
same_answer rules nodes bytes says =
    ap (answer_without_items rules nodes) (items_come_out rules nodes bytes)
    ∙ prepared_answer rules nodes (without_label_items bytes) says

-- the text by the record without label items, and its values
pub text_is : (rules : Rules) (nodes : ℕ) (bytes : List ℕ) → annotated rules nodes bytes
    ≡ with_item (without_label_items bytes) (values_of nodes rules (answer_by rules nodes bytes))
unfolding annotated
text_is rules nodes bytes = refl

same_text : (rules : Rules) (nodes : ℕ) (bytes : List ℕ)
    → answer_by rules nodes (annotated rules nodes bytes) ≡ answer_by rules nodes bytes
    → annotated rules nodes (annotated rules nodes bytes) ≡ annotated rules nodes bytes
same_text rules nodes bytes same =
    let text : List ℕ = annotated rules nodes bytes in
    let values : List (List ℕ) = values_of nodes rules (answer_by rules nodes bytes) in
    text_is rules nodes text
    ∙ ap (λ answer. with_item (without_label_items text) (values_of nodes rules answer)) same
    ∙ ap (λ t. with_item (without_label_items t) values) (text_is rules nodes bytes)
    ∙ items_are_put_again (without_label_items bytes) values
    (values_are_fit nodes rules (answer_by rules nodes bytes)) (no_label_item bytes)
    ∙ sym (text_is rules nodes bytes)

pub annotating_repeats : AnnotatingRepeats
annotating_repeats rules nodes bytes says =
    let same = same_answer rules nodes bytes says in
    record { answer = same; text = same_text rules nodes bytes same }
