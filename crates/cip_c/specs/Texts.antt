-- The texts that are due for a record. Own.
use Rattle.std.specs.Prelude.{ℕ, List, [], ◌∷◌, ◌++◌}
use Rattle.std.specs.List.{flat_map}
use Rattle.cip_item.specs.Parts.{without_label_items}
use Rattle.cip_item.specs.Putting.{with_item}
use Rattle.cip_print.specs.Explaining.{explained}
use Rattle.cip_print.specs.Values.{values_of}
use Rattle.cip_answer.specs.Answers.{answer_by}
use Rattle.cip_undefined.specs.Answers.{undefined_by}
use Rattle.cip_undefined.specs.Texts.{undefined_text}
use Rattle.cip_c.specs.declared.settings.Settings.{Settings}
use Rattle.cip_c.specs.declared.text_kinds.Text.{Text}
use Rattle.cip_c.specs.declared.text_kinds.Text.TheVariants.{Annotated, Values, Explained, Undefined}

-- the value lines of a record's item
abbrev pub item_values : Settings → List ℕ → List (List ℕ)
item_values settings bytes =
    values_of settings.nodes settings.rules (answer_by settings.rules settings.nodes bytes)

-- the record with its item; label items that it has are taken out first
abbrev pub annotated : Settings → List ℕ → List ℕ
annotated settings bytes = with_item (without_label_items bytes) (item_values settings bytes)

abbrev pub ended_line : List ℕ → List ℕ
ended_line line = line ++ 10 ∷ []

-- these value lines alone
abbrev pub values_text : Settings → List ℕ → List ℕ
values_text settings bytes = flat_map ended_line (item_values settings bytes)

-- what is found of the record of this number
abbrev pub explained_text : ℕ → Settings → List ℕ → List ℕ
explained_text number settings bytes = explained number (answer_by settings.rules settings.nodes bytes)

-- what is written for the undefined units of a record
abbrev pub undefined_told : Settings → List ℕ → List ℕ
undefined_told settings bytes = undefined_text (undefined_by settings.rules settings.nodes bytes)

-- the text that is asked for
abbrev pub text_of : Text → Settings → List ℕ → List ℕ
text_of Annotated = annotated
text_of Values = values_text
text_of (Explained number) = explained_text number
text_of Undefined = undefined_told
