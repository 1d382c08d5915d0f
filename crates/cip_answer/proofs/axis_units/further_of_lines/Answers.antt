use Rattle.std.proofs.Common.{arith}
use Rattle.std.proofs.lemmas.Grind.{common_steps}
use Rattle.cip_answer.specs.FurtherAnswers.{further_of_lines}
use Rattle.cip_answer.proofs.axis_units.further_of_lines.Goals as goal

pub returns-in-Ok-Ok-clause-answer : goal.returns-in-Ok-Ok-clause-answer
unfolding further_of_lines
returns-in-Ok-Ok-clause-answer g c = grind (arith, common_steps)
