-- What is written for the further units of a record: a line for each, with what is found of it. Own.
use Rattle.std.specs.Prelude.{ℕ, List, Bool}
use Rattle.cip_item.specs.Parts.{without_label_items}
use Rattle.cip_print.specs.Explaining.{explained}
use Rattle.cip_rank.specs.declared.rules.Rules.{Rules}
use Rattle.cip_answer.specs.Answers.{is_flagged}
use Rattle.cip_answer.specs.FurtherAnswers.{further_of_record}

-- of the record of this number, which has no label items
unfoldable pub axes_without_items : Rules → ℕ → ℕ → List ℕ → List ℕ
axes_without_items rules nodes number bytes = explained number (further_of_record rules nodes bytes)

-- it is refused, or a digraph of a further unit is larger than the bound
unfoldable pub is_flagged_without_items : Rules → ℕ → List ℕ → Bool
is_flagged_without_items rules nodes bytes = is_flagged (further_of_record rules nodes bytes)

-- The text of a record of this number. Label items that it has are taken out first.
abbrev pub axes_of : Rules → ℕ → ℕ → List ℕ → List ℕ
axes_of rules nodes number bytes = axes_without_items rules nodes number (without_label_items bytes)

abbrev pub are_axes_flagged : Rules → ℕ → List ℕ → Bool
are_axes_flagged rules nodes bytes = is_flagged_without_items rules nodes (without_label_items bytes)
