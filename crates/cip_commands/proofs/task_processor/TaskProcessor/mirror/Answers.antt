use Rattle.std.proofs.Common.{◌≡◌, ◌∙◌, None, ap, subst, sym}
use Rattle.std.specs.Prelude.{IfOk}
use Rattle.cip_commands.specs.Changing.{Change, mirrored_to}
use Rattle.cip_commands.specs.TellingBare.{annotate_change}
use Rattle.cip_commands.proofs.task_processor.TaskProcessor.mirror.Goals as goal

pub returns-in-Ok-Written : goal.returns-in-Ok-Written
returns-in-Ok-Written g c =
    let labelling = c.args.self.now.labelling in
    let answered = sym c.in-Ok-Written.field-0-is ∙ c.in-Ok-Written.ensures.answer in
    subst (λ (change : Change). IfOk c.annotate_text.result (λ output. output ≡ annotate_change labelling change))
    (ap (λ bytes. record { bytes = bytes; note = None }) c.as_slice.ensures
    ∙ ap (mirrored_to c.args.lines.now) answered)
    c.annotate_text.ensures

pub returns-in-Ok-Refused : goal.returns-in-Ok-Refused
returns-in-Ok-Refused g c =
    let labelling = c.args.self.now.labelling in
    let answered = sym c.in-Ok-Refused.field-0-is ∙ c.in-Ok-Refused.ensures.answer in
    subst (λ (change : Change). IfOk c.annotate.result (λ output. output ≡ annotate_change labelling change))
    (ap (mirrored_to c.args.lines.now) answered) c.annotate.ensures
