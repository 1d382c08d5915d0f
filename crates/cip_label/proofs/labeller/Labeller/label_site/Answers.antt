use Rattle.std.proofs.Common.{arith}
use Rattle.std.proofs.lemmas.Grind.{common_steps}
use Rattle.cip_label.proofs.labeller.Labeller.label_site.Goals as goal

pub label_ends-requires-clause-fit : goal.label_ends-requires-clause-fit
label_ends-requires-clause-fit g c = grind (arith, common_steps)

pub returns-clause-outcome : goal.returns-clause-outcome
returns-clause-outcome g c = grind (arith, common_steps)
