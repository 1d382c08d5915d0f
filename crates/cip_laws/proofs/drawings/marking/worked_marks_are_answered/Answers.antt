use Rattle.std.proofs.Common.{refl}
use Rattle.cip_elem.specs.Bonding.{valences_of}
use Rattle.cip_elem.specs.Masses.{natural_half_of}
use Rattle.cip_rank.specs.Comparison.{sets, comparison}
use Rattle.cip_digraph.specs.digraph.Digraph.{real_children}
use Rattle.cip_digraph.specs.digraph.View.{view_children}
use Rattle.cip_digraph.specs.graph.DrawnGraph.{graph_of}
use Rattle.cip_digraph.specs.outcome.Outcomes.{outcome_of}
use Rattle.cip_digraph.specs.rings.Positions.{positions_of}
use Rattle.cip_digraph.specs.rules.Auxiliary.{descriptors_within}
use Rattle.cip_digraph.specs.rules.Decisions.{order}
use Rattle.cip_digraph.specs.rules.Orders.{rule_1a, rule_1b, rule_2, rule_3, rule_4a, readings, rule_4b_higher, rule_4b_lower, rule_4c, rule_5}
use Rattle.cip_digraph.specs.units.Units.{sites_of}
use Rattle.cip_edit.specs.SetLetters.{mark_for_letter}
use Rattle.cip_laws.proofs.drawings.marking.worked_marks_are_answered.Goals as goal

pub returns : goal.returns
unfolding valences_of natural_half_of comparison sets descriptors_within order real_children graph_of rule_1a rule_1b rule_2
    rule_3 rule_4a readings rule_4b_higher rule_4b_lower rule_4c rule_5 outcome_of positions_of sites_of view_children
    mark_for_letter
returns c = record {
  first = refl;
  other = refl;
  turned = refl;
  stays = refl;
  between = refl;
  no_centre = refl;
  no_atom = refl;
  small = refl;
  large = refl;
  small_other = refl;
  tie = refl;
  over = refl;
  coincident = refl;
}
