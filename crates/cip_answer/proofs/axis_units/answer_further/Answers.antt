use Rattle.std.proofs.Common.{arith}
use Rattle.std.proofs.lemmas.Grind.{common_steps}
use Rattle.cip_answer.proofs.axis_units.answer_further.Goals as goal

pub returns-in-Ok-label_all-clause-kept : goal.returns-in-Ok-label_all-clause-kept
returns-in-Ok-label_all-clause-kept g c = grind (arith, common_steps)

pub label_all-requires-clause-fit : goal.label_all-requires-clause-fit
label_all-requires-clause-fit g c = grind (arith, common_steps)
