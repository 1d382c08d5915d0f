use Rattle.std.proofs.Common.{arith}
use Rattle.std.proofs.lemmas.Grind.{common_steps}
use Rattle.cip_text.proofs.lemmas.Halves.{closing_itself}
use Rattle.cip_text.proofs.record_lines.split_body_line.Goals as goal

pub returns-else-is_closing-clause-whole : goal.returns-else-is_closing-clause-whole
returns-else-is_closing-clause-whole c = grind (arith, common_steps, closing_itself)

pub returns-else-is_closing-clause-some : goal.returns-else-is_closing-clause-some
returns-else-is_closing-clause-some c = grind (arith, common_steps, closing_itself)

pub returns-then-is_closing-clause-end : goal.returns-then-is_closing-clause-end
returns-then-is_closing-clause-end c = grind (arith, common_steps, closing_itself)
