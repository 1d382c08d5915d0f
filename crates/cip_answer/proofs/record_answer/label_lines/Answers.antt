use Rattle.std.proofs.Common.{arith}
use Rattle.std.proofs.lemmas.Grind.{common_steps}
use Rattle.cip_answer.specs.Answers.{answer_without_items}
use Rattle.cip_answer.proofs.record_answer.label_lines.Goals as goal

pub returns-in-Ok-Ok-clause-answer : goal.returns-in-Ok-Ok-clause-answer
unfolding answer_without_items
returns-in-Ok-Ok-clause-answer g c = grind (arith, common_steps)
