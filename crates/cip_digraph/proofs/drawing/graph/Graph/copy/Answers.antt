use Rattle.std.proofs.Common.{arith}
use Rattle.std.proofs.lemmas.Grind.{common_steps}
use Rattle.cip_digraph.proofs.drawing.graph.Graph.copy.Goals as goal

pub new-requires-clause-range : goal.new-requires-clause-range
new-requires-clause-range c = grind (arith, common_steps)

pub returns-in-Ok-from_slice : goal.returns-in-Ok-from_slice
returns-in-Ok-from_slice c = grind (arith, common_steps)
