use Rattle.std.proofs.Common.{refl}
use Rattle.cip_digraph.specs.digraph.Digraph.{real_children}
use Rattle.cip_digraph.specs.graph.DrawnGraph.{graph_of}
use Rattle.cip_digraph.specs.rings.Positions.{positions_of}
use Rattle.cip_elem.specs.Bonding.{valences_of}
use Rattle.cip_laws.proofs.ranking.digraphs.worked_digraphs_are_counted.Goals as goal

pub returns : goal.returns
unfolding valences_of graph_of positions_of real_children
returns c = record {
  glyceraldehyde = refl;
  methylcyclopropane = refl;
  oxirane = refl;
  tetrahedrane = refl;
}
