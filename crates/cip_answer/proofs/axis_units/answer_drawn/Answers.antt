use Rattle.std.proofs.Common.{arith}
use Rattle.std.proofs.lemmas.Grind.{common_steps}
use Rattle.cip_answer.specs.FurtherAnswers.{further_of_molecule}
use Rattle.cip_answer.proofs.axis_units.answer_drawn.Goals as goal

pub returns-in-Ok-clause-answer : goal.returns-in-Ok-clause-answer
unfolding further_of_molecule
returns-in-Ok-clause-answer g c = grind (arith, common_steps)

pub answer_further-requires-clause-fit : goal.answer_further-requires-clause-fit
unfolding further_of_molecule
answer_further-requires-clause-fit g c = grind (arith, common_steps)
