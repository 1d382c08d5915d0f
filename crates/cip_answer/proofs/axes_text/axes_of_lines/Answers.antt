use Rattle.std.proofs.Common.{arith}
use Rattle.std.proofs.lemmas.Grind.{common_steps}
use Rattle.cip_answer.specs.AxesTexts.{axes_without_items, is_flagged_without_items}
use Rattle.cip_answer.proofs.axes_text.axes_of_lines.Goals as goal

pub returns-in-Ok-explain_text-clause-flagged : goal.returns-in-Ok-explain_text-clause-flagged
unfolding axes_without_items is_flagged_without_items
returns-in-Ok-explain_text-clause-flagged g c = grind (arith, common_steps)

pub returns-in-Ok-explain_text-clause-text : goal.returns-in-Ok-explain_text-clause-text
unfolding axes_without_items is_flagged_without_items
returns-in-Ok-explain_text-clause-text g c = grind (arith, common_steps)
