use Rattle.std.proofs.Common.{drop}
use Rattle.cip_ring.specs.VertexFlags.{AreAmong}
use Rattle.cip_ring.proofs.vertex_set.clear_flags.Given as goal

abbrev pub invariant-loop-vertex : goal.invariant-loop-vertex
invariant-loop-vertex l = AreAmong (drop l.vertex-index l.vertices) l.flags.items
