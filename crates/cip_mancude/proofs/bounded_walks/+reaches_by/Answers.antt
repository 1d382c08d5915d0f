use Rattle.std.proofs.Common.{arith}
use Rattle.std.proofs.lemmas.Grind.{common_steps}
use Rattle.cip_mancude.proofs.bounded_walks.+reaches_by.Goals as goal

pub passes_along-returns-then-passes_through-clause-value : goal.passes_along-returns-then-passes_through-clause-value
passes_along-returns-then-passes_through-clause-value c = grind (arith, common_steps)

pub passes_along-loop-edge-preserved : goal.passes_along-loop-edge-preserved
passes_along-loop-edge-preserved c = grind (arith, common_steps)

pub passes_along-returns-clause-value : goal.passes_along-returns-clause-value
passes_along-returns-clause-value c = grind (arith, common_steps)
