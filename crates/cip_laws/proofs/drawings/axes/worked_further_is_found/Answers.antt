use Rattle.std.proofs.Common.{refl}
use Rattle.cip_digraph.specs.graph.DrawnGraph.{graph_of}
use Rattle.cip_digraph.specs.rings.Positions.{positions_of}
use Rattle.cip_elem.specs.Bonding.{valences_of}
use Rattle.cip_mancude.specs.SharedRings.{share_alternating_ring}
use Rattle.cip_axis.specs.Biaryls.{is_biaryl}
use Rattle.cip_axis.specs.Further.{further_of}
use Rattle.cip_laws.proofs.drawings.axes.worked_further_is_found.Goals as goal

pub returns : goal.returns
unfolding valences_of graph_of positions_of further_of share_alternating_ring is_biaryl
returns c = record {
  chain = refl;
  undecided_chain = refl;
  rings = refl;
  marked_axis = refl;
  only_axis_marked = refl;
  undecided_axis = refl;
}
