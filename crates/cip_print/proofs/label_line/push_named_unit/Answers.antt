use Rattle.std.proofs.lemmas.Result.{on_ok_weaker}
use Rattle.cip_print.proofs.lemmas.Texts.{joined}
use Rattle.cip_print.proofs.label_line.push_named_unit.Goals as goal

pub returns-in-Ok : goal.returns-in-Ok
returns-in-Ok c =
    on_ok_weaker c.push_word.result (λ word. joined _ _ _ _ _ c.in-Ok.ensures word) c.push_word.ensures
