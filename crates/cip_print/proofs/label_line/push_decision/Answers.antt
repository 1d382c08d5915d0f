use Rattle.std.proofs.Common.{◌≡◌, ◌++◌, ◌∙◌, ap}
use Rattle.std.specs.Prelude.{codes, decimal}
use Rattle.std.proofs.lemmas.Result.{on_ok_weaker}
use Rattle.cip_mol.specs.Letters.{letter_text, rule_text}
use Rattle.cip_print.proofs.lemmas.Texts.{joined}
use Rattle.cip_print.proofs.label_line.push_decision.Goals as goal

pub returns-in-Ok-push : goal.returns-in-Ok-push
returns-in-Ok-push c =
    let label = c.args.label.now in
    let text = c.args.text.now.items in
    let letter = codes " " ++ letter_text label.letter in
    let rule = codes " " ++ rule_text label.rule in
    let sphere = decimal label.sphere in
    let first : c.push_word.new.text.items ≡ text ++ letter =
    c.in-Ok.ensures ∙ ap (λ word. text ++ (codes " " ++ word)) c.text.ensures in
    let second : c.push_word-2.new.text.items ≡ c.push_word.new.text.items ++ rule =
    c.in-Ok-push_word.ensures ∙ ap (λ word. c.push_word.new.text.items ++ (codes " " ++ word)) c.text-2.ensures in
    on_ok_weaker c.push_number.result
    (λ third. joined text letter (rule ++ (codes " " ++ sphere)) c.push_word.new.text.items _ first
    (joined c.push_word.new.text.items rule (codes " " ++ sphere) c.push_word-2.new.text.items _ second
    (joined c.push_word-2.new.text.items (codes " ") sphere c.push.new.self.items _ c.in-Ok-push.ensures.items
    (third ∙ ap (λ n. c.push.new.self.items ++ decimal n) c.from.ensures))))
    c.push_number.ensures
