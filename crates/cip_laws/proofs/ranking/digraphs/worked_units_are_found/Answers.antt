use Rattle.std.proofs.Common.{refl}
use Rattle.cip_digraph.specs.graph.DrawnGraph.{graph_of}
use Rattle.cip_digraph.specs.rings.Positions.{positions_of}
use Rattle.cip_digraph.specs.units.Units.{sites_of}
use Rattle.cip_elem.specs.Bonding.{valences_of}
use Rattle.cip_laws.proofs.ranking.digraphs.worked_units_are_found.Goals as goal

pub returns : goal.returns
unfolding valences_of graph_of positions_of sites_of
returns c = record {
  glyceraldehyde = refl;
  sulfoxide = refl;
  sulfone = refl;
  ammonium = refl;
  amine = refl;
  heptadienol = refl;
  allene = refl;
  cyclohexene = refl;
  cyclooctene = refl;
  arenes = refl;
}
