use Rattle.std.proofs.Common.{◌∙◌}
use Rattle.cip_digraph.proofs.lemmas.rows.Joined.{row_is}
use Rattle.cip_digraph.proofs.drawing.graph.Graph.edges_at.Goals as goal

pub returns-clause-value : goal.returns-clause-value
returns-clause-value c = rw (← c.self.view_is) (c.of.ensures ∙ row_is _ _ _ c.self.invariant.1 c.self.invariant.2)
