use Rattle.std.proofs.Common.{arith}
use Rattle.std.proofs.lemmas.Grind.{common_steps}
use Rattle.cip_edit.specs.Columns.{with_columns}
use Rattle.cip_edit.proofs.lines.columns.push_columns.Goals as goal

pub returns : goal.returns
unfolding with_columns
returns c = grind (arith, common_steps)
