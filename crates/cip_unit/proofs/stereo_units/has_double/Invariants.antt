use Rattle.std.proofs.Common.{◌≡◌, ◌==◌, drop}
use Rattle.std.specs.List.{list_any}
use Rattle.cip_unit.specs.Sites.{has_double}
use Rattle.cip_unit.proofs.stereo_units.has_double.Given as goal

abbrev pub invariant-loop-edge : goal.invariant-loop-edge
invariant-loop-edge l = list_any (λ edge. edge.order == 2) (drop l.edge-index l.graph.edges) ≡ has_double l.graph
