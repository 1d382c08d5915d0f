use Rattle.std.proofs.Common.{arith}
use Rattle.std.proofs.lemmas.Grind.{common_steps}
use Rattle.cip_item.proofs.label_items.has_label_part.Goals as goal

pub loop-content-preserved : goal.loop-content-preserved
loop-content-preserved c = grind (arith, common_steps)

pub returns-then-is_label_item : goal.returns-then-is_label_item
returns-then-is_label_item c = grind (arith, common_steps)
