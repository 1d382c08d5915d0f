use Rattle.std.proofs.Common.{refl}
use Rattle.cip_digraph.specs.graph.DrawnGraph.{graph_of}
use Rattle.cip_elem.specs.Bonding.{valences_of}
use Rattle.cip_laws.proofs.ranking.digraphs.worked_graphs_are_drawn.Goals as goal

pub returns : goal.returns
unfolding valences_of graph_of
returns c = record {
  carbon_fills = refl;
  radical_takes = refl;
  mark_states = refl;
  mark_says_none = refl;
  next_valence_serves = refl;
  none_serves = refl;
  sulfur_fills = refl;
  glyceraldehyde_vertices = refl;
  sulfoxide_has_a_lone_pair = refl;
  sulfone_has_none = refl;
  sulfoxide_neglects = refl;
  sulfone_neglects = refl;
  aldehyde_counts = refl;
}
