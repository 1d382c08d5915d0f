use Rattle.std.proofs.Common.{◌≡◌, ◌++◌, ◌∷◌, [], ◌∙◌, ap}
use Rattle.std.specs.Prelude.{codes, max, min}
use Rattle.std.proofs.lemmas.Result.{on_ok_weaker}
use Rattle.cip_print.specs.Naming.{number}
use Rattle.cip_print.proofs.lemmas.Texts.{joined}
use Rattle.cip_print.proofs.unit_name.push_pair.Goals as goal

pub returns-in-Ok-push : goal.returns-in-Ok-push
returns-in-Ok-push c =
    let text = c.args.text.now.items in
    let one = number (min c.args.a c.args.b) in
    let other = number (max c.args.a c.args.b) in
    let first : c.push_atom.new.text.items ≡ c.push.new.self.items ++ one =
    c.in-Ok-push_atom.ensures ∙ ap (λ n. c.push.new.self.items ++ number n) c.min.ensures in
    on_ok_weaker c.push_atom-in-Ok-push.result
    (λ second. joined text (c.args.kind ∷ []) (one ++ (codes "-" ++ other)) c.push.new.self.items _ c.in-Ok.ensures.items
    (joined c.push.new.self.items one (codes "-" ++ other) c.push_atom.new.text.items _ first
    (joined c.push_atom.new.text.items (codes "-") other c.push-in-Ok-push_atom.new.self.items _ c.in-Ok-push.ensures.items
    (second ∙ ap (λ n. c.push-in-Ok-push_atom.new.self.items ++ number n) c.max.ensures))))
    c.push_atom-in-Ok-push.ensures
