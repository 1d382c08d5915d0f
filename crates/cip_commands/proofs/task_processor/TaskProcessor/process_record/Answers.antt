use Rattle.std.proofs.Common.{rules, ◌≡◌, ◌∙◌, ap, subst, false}
use Rattle.std.specs.Prelude.{IfOk}
use Rattle.cip_item.specs.Parts.{has_label_item, without_label_items}
use Rattle.cip_batch.specs.Batches.{Output}
use Rattle.cip_commands.specs.TellingBare.{output_without_items}
use Rattle.cip_commands.specs.declared.exit_reason.ChangeNote.{ChangeNote}
use Rattle.cip_commands.proofs.lemmas.ToldBare.{bare_is_told, told_itself}
use Rattle.cip_commands.proofs.task_processor.TaskProcessor.process_record.Goals as goal

pub returns-else-has_label_item : goal.returns-else-has_label_item
returns-else-has_label_item g c =
    let processor = c.args.self.now in
    let none : has_label_item c.args.bytes.now ≡ false = search rules in
    subst (λ (due : Output ChangeNote). IfOk c.process_lines-output.result (λ output. output ≡ due))
    (told_itself processor.labelling processor.task c.args.number c.args.bytes.now none)
    (subst (λ bytes. IfOk c.process_lines-output.result (λ output. output ≡ output_without_items processor.labelling processor.task c.args.number bytes))
    c.in-Ok.ensures c.process_lines-output.ensures)

pub returns-in-Ok-bare : goal.returns-in-Ok-bare
returns-in-Ok-bare g c =
    let processor = c.args.self.now in
    subst (λ (due : Output ChangeNote). IfOk c.process_without_items.result (λ output. output ≡ due))
    (bare_is_told processor.labelling processor.task c.args.number c.args.bytes.now)
    (subst (λ bytes. IfOk c.process_without_items.result (λ output. output ≡ output_without_items processor.labelling processor.task c.args.number bytes))
    (c.deref.ensures.value ∙ c.in-Ok-bare.ensures.value ∙ ap without_label_items c.in-Ok.ensures)
    c.process_without_items.ensures)
