use Rattle.std.proofs.Common.{refl}
use Rattle.cip_elem.specs.Bonding.{valences_of}
use Rattle.cip_elem.specs.Masses.{natural_half_of}
use Rattle.cip_rank.specs.Comparison.{comparison, sets}
use Rattle.cip_digraph.specs.rules.Auxiliary.{descriptors_within}
use Rattle.cip_digraph.specs.rules.Decisions.{order}
use Rattle.cip_digraph.specs.digraph.Digraph.{real_children}
use Rattle.cip_digraph.specs.graph.DrawnGraph.{graph_of}
use Rattle.cip_digraph.specs.rules.Orders.{rule_1a, rule_1b, rule_2, rule_3, rule_4a, readings, rule_4b_higher, rule_4b_lower, rule_4c, rule_5}
use Rattle.cip_digraph.specs.outcome.Outcomes.{outcome_of}
use Rattle.cip_digraph.specs.rings.Positions.{positions_of}
use Rattle.cip_digraph.specs.units.Units.{sites_of}
use Rattle.cip_digraph.specs.digraph.View.{view_children}
use Rattle.cip_laws.proofs.drawings.renumbering.worked_molecules_are_renumbered.Goals as goal

pub returns : goal.returns
unfolding valences_of graph_of positions_of sites_of natural_half_of real_children view_children comparison sets rule_1a
    rule_1b rule_2 rule_3 rule_4a readings rule_4b_higher rule_4b_lower rule_4c rule_5 order descriptors_within outcome_of
returns c = record {
  bromochlorofluoromethane_as_drawn = refl;
  bromochlorofluoromethane_backwards = refl;
  bromochlorofluoromethane_one_on = refl;
  bromochlorofluoromethane_mixed = refl;
  but_2_ene_as_drawn = refl;
  but_2_ene_backwards = refl;
  but_2_ene_one_on = refl;
  but_2_ene_mixed = refl;
  dichloropropadiene_as_drawn = refl;
  dichloropropadiene_backwards = refl;
  dichloropropadiene_one_on = refl;
  dichloropropadiene_mixed = refl;
  glyceraldehyde_as_drawn = refl;
  glyceraldehyde_backwards = refl;
  glyceraldehyde_one_on = refl;
  glyceraldehyde_mixed = refl;
  trihydroxyglutaric_acid_as_drawn = refl;
  trihydroxyglutaric_acid_backwards = refl;
  trihydroxyglutaric_acid_one_on = refl;
  trihydroxyglutaric_acid_mixed = refl;
  menthol_as_drawn = refl;
  menthol_backwards = refl;
}
