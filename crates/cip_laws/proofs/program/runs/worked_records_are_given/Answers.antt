use Rattle.std.proofs.Common.{ap, codes}
use Rattle.std.specs.Fmt.{digits}
use Rattle.cip_item.specs.Parts.{without_label_items}
use Rattle.cip_item.specs.Putting.{heading}
use Rattle.cip_print.specs.Labels.{ordered_label, names_of_ends}
use Rattle.cip_print.specs.Values.{values_of}
use Rattle.cip_answer.specs.Worked.{bromochlorofluoromethane, closed, labelled, with_returns}
use Rattle.cip_laws.proofs.lemmas.answered.Answered.{worked_answers}
use Rattle.cip_rank.specs.declared.rules.Rules.TheVariants.{Wording2018}
use Rattle.cip_commands.specs.Telling.{annotated, with_answer}
use Rattle.cip_laws.proofs.program.runs.worked_records_are_given.Goals as goal

pub returns : goal.returns
unfolding annotated values_of ordered_label names_of_ends heading digits
returns c = record {
  front = ap (with_answer Wording2018 100000 (without_label_items (closed (bromochlorofluoromethane (codes "  1")))))
      worked_answers.front;
  behind = ap (with_answer Wording2018 100000 (without_label_items (closed (bromochlorofluoromethane (codes "  6")))))
      worked_answers.behind;
  undecided = ap (with_answer Wording2018 100000 (without_label_items
      (closed (bromochlorofluoromethane (codes "  4")))))
      worked_answers.undecided;
  refused = ap (with_answer Wording2018 100000 (without_label_items (closed (bromochlorofluoromethane (codes "  5")))))
      worked_answers.refused;
  again = ap (with_answer Wording2018 100000 (without_label_items (closed labelled))) worked_answers.again;
  returns = ap (with_answer Wording2018 100000 (without_label_items
      (with_returns (bromochlorofluoromethane (codes "  1")))))
      worked_answers.returns;
}
