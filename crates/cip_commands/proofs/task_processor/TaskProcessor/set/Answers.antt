use Rattle.std.proofs.Common.{◌≡◌, ◌≤◌, ◌+◌, ◌∙◌, Some, ap, arith, length, subst}
use Rattle.std.specs.Prelude.{IfOk}
use Rattle.cip_edit.specs.SetAnswers.{IsFew}
use Rattle.cip_commands.specs.Changing.{Change, set_to}
use Rattle.cip_commands.specs.TellingBare.{annotate_change}
use Rattle.cip_commands.specs.declared.task_processor.TaskProcessor.{TaskProcessor}
use Rattle.cip_commands.specs.declared.exit_reason.ChangeNote.TheVariants.{Changed}
use Rattle.cip_commands.proofs.lemmas.ToldBare.{set_by}
use Rattle.cip_commands.proofs.task_processor.TaskProcessor.set.Goals as goal

pub annotate_text-requires-clause-few : goal.annotate_text-requires-clause-few
annotate_text-requires-clause-few g c =
    let few : length c.in-Ok-Written.text ≤ length c.args.lines.now + 65536 =
    subst (IsFew c.args.lines.now) c.in-Ok-Written.field-0-is c.in-Ok-Written.ensures.few in
    rw c.as_slice.ensures (omega (arith, few, c.requires.few))

pub returns-in-Ok-Written : goal.returns-in-Ok-Written
returns-in-Ok-Written g c =
    let labelling = c.args.self.now.labelling in
    let lines = c.args.lines.now in
    subst (λ (change : Change). IfOk c.annotate_text.result (λ output. output ≡ annotate_change labelling change))
    (ap (λ bytes. record { bytes = bytes; note = Some Changed }) c.as_slice.ensures ∙ ap (set_to lines)
    (set_by labelling _ _ c.args.atom c.args.letter lines _ _ c.in-Ok-Written.field-0-is
    c.in-Ok-Written.ensures.answer (ap (λ (processor : TaskProcessor g.row.D.Denot). processor.labelling.rules) c.self.view_is)
    c.requires.fit)) c.annotate_text.ensures

pub returns-in-Ok-Refused : goal.returns-in-Ok-Refused
returns-in-Ok-Refused g c =
    let labelling = c.args.self.now.labelling in
    let lines = c.args.lines.now in
    subst (λ (change : Change). IfOk c.annotate.result (λ output. output ≡ annotate_change labelling change))
    (ap (set_to lines) (set_by labelling _ _ c.args.atom c.args.letter lines _ _ c.in-Ok-Refused.field-0-is
    c.in-Ok-Refused.ensures.answer (ap (λ (processor : TaskProcessor g.row.D.Denot). processor.labelling.rules) c.self.view_is)
    c.requires.fit)) c.annotate.ensures
