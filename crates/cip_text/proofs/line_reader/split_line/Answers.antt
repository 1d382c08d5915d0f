use Rattle.std.proofs.Common.{arith}
use Rattle.std.proofs.lemmas.Grind.{common_steps}
use Rattle.cip_text.proofs.lemmas.Firsts.{lines_split, some_length}
use Rattle.cip_text.proofs.line_reader.split_line.Goals as goal

pub returns-else-is_empty-clause-some : goal.returns-else-is_empty-clause-some
returns-else-is_empty-clause-some c = grind (arith, common_steps, lines_split, some_length)

pub returns-else-is_empty-clause-lines : goal.returns-else-is_empty-clause-lines
returns-else-is_empty-clause-lines c = grind (arith, common_steps, lines_split, some_length)
