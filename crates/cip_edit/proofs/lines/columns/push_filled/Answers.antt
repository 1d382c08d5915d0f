use Rattle.std.proofs.Common.{arith}
use Rattle.std.proofs.lemmas.Grind.{common_steps}
use Rattle.cip_edit.proofs.lemmas.CopiedColumns.{one_column}
use Rattle.cip_edit.proofs.lines.columns.push_filled.Goals as goal

pub loop-column-preserved : goal.loop-column-preserved
loop-column-preserved c = grind (arith, common_steps, one_column)
