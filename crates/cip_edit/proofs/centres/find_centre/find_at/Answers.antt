use Rattle.std.proofs.Common.{arith}
use Rattle.std.proofs.lemmas.Grind.{common_steps}
use Rattle.cip_edit.proofs.centres.find_centre.find_at.Goals as goal

pub returns-clause-outcome : goal.returns-clause-outcome
returns-clause-outcome g c = grind (arith, common_steps)

pub label_counted-requires-clause-place : goal.label_counted-requires-clause-place
label_counted-requires-clause-place g c = grind (arith, common_steps)
