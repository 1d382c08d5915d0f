use Rattle.std.proofs.Common.{rules}
use Rattle.std.proofs.lemmas.Slice.Eq.{slice_eq-Decides}
use Rattle.cip_digraph.proofs.drawing.graph.are_same_vertices.Goals as goal

pub returns : goal.returns
returns c same = (slice_eq-Decides (λ a b. search rules) _ _ _ c.eq.ensures).0 same
