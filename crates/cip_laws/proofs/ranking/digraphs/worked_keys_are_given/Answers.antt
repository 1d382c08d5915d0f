use Rattle.std.proofs.Common.{refl}
use Rattle.cip_digraph.specs.digraph.Digraph.{real_children}
use Rattle.cip_digraph.specs.graph.DrawnGraph.{graph_of}
use Rattle.cip_digraph.specs.rings.Positions.{positions_of}
use Rattle.cip_elem.specs.Bonding.{valences_of}
use Rattle.cip_elem.specs.Masses.{natural_half_of}
use Rattle.cip_laws.proofs.ranking.digraphs.worked_keys_are_given.Goals as goal

pub returns : goal.returns
unfolding valences_of graph_of positions_of real_children natural_half_of
returns c = record {
  aldehyde = refl;
  hydroxymethyl = refl;
  pyridine_positions = refl;
  pyridine_mean = refl;
  pyridine = refl;
  phenyl = refl;
  closure = refl;
  carbon_as_printed = refl;
  carbon_as_corrected = refl;
  oxygen_as_printed = refl;
  oxygen_as_corrected = refl;
  tritium = refl;
  deuterium = refl;
  hydrogen = refl;
  duplicate_has_none = refl;
}
