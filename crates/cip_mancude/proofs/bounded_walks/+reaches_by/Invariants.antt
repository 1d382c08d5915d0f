use Rattle.std.proofs.Common.{◌≡◌, ◌+◌, ◌*◌, drop}
use Rattle.cip_digraph.specs.graph.Graph.{edges_at}
use Rattle.cip_mancude.specs.SharedRings.{passes_along}
use Rattle.cip_mancude.proofs.bounded_walks.+reaches_by.Given as goal

abbrev pub decreases-reaches_by : goal.decreases-reaches_by
decreases-reaches_by l = 3 * l.more

abbrev pub decreases-passes_along : goal.decreases-passes_along
decreases-passes_along l = 3 * l.more + 2

abbrev pub decreases-passes_through : goal.decreases-passes_through
decreases-passes_through l = 3 * l.more + 1

abbrev pub invariant-passes_along-loop-edge : goal.invariant-passes_along-loop-edge
invariant-passes_along-loop-edge l = record {
  rest : passes_along l.alternation l.aim.third l.aim.target l.more l.fn.path l.at
      (drop l.edge-index (edges_at l.alternation l.at))
      ≡ passes_along l.alternation l.aim.third l.aim.target l.more l.fn.path l.at (edges_at l.alternation l.at);
  path : l.path ≡ l.fn.path;
}
