use Rattle.std.proofs.Common.{◌++◌, ◌∙◌, ap}
use Rattle.std.specs.Prelude.{codes}
use Rattle.std.proofs.lemmas.Result.{on_ok_weaker}
use Rattle.cip_print.specs.Labels.{decision_text, names_in_order, ordered_label}
use Rattle.cip_print.specs.Naming.{name_text}
use Rattle.cip_print.proofs.lemmas.Texts.{joined}
use Rattle.cip_print.proofs.label_line.push_label.Goals as goal

pub returns-in-Ok-extend_from_slice : goal.returns-in-Ok-extend_from_slice
unfolding ordered_label
returns-in-Ok-extend_from_slice c =
    let unit = c.args.unit.now in
    let text = c.args.text.now.items in
    let name = name_text unit.name in
    let decision = decision_text c.args.label.now in
    let named = c.push_name.new.text.items in
    let decided = c.push_decision.new.text.items in
    let ordered = c.extend_from_slice.new.self.items in
    on_ok_weaker c.push_names_in_order.result
    (λ last. joined text ((name ++ decision) ++ codes " order") (names_in_order unit.drawn unit.site c.args.label.now.order)
    ordered _
    (joined text (name ++ decision) (codes " order") decided ordered
    (joined text name decision named decided c.in-Ok.ensures c.in-Ok-push_decision.ensures)
    c.in-Ok-extend_from_slice.ensures.items)
    (last ∙ ap (λ places. ordered ++ names_in_order unit.drawn unit.site places) c.as_slice.ensures.value))
    c.push_names_in_order.ensures
