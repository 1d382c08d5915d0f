use Rattle.std.proofs.Common.{arith}
use Rattle.std.proofs.lemmas.Grind.{common_steps}
use Rattle.cip_answer.proofs.record_answer.answer_drawn.Goals as goal

pub returns-in-Ok-label_units-clause-room : goal.returns-in-Ok-label_units-clause-room
returns-in-Ok-label_units-clause-room g c = grind (arith, common_steps)

pub returns-in-Ok-label_units-clause-answer : goal.returns-in-Ok-label_units-clause-answer
returns-in-Ok-label_units-clause-answer g c = grind (arith, common_steps)

pub label_units-requires-clause-few : goal.label_units-requires-clause-few
label_units-requires-clause-few g c = grind (arith, common_steps)
