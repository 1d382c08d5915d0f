use Rattle.std.proofs.Common.{refl}
use Rattle.cip_digraph.specs.rules.Auxiliary.{descriptors_within}
use Rattle.cip_digraph.specs.rules.Decisions.{order}
use Rattle.cip_digraph.specs.digraph.Digraph.{real_children}
use Rattle.cip_digraph.specs.graph.DrawnGraph.{graph_of}
use Rattle.cip_digraph.specs.rules.Orders.{rule_1a, rule_1b, rule_2, rule_3, rule_4a, readings, rule_4b_higher}
use Rattle.cip_digraph.specs.rules.Orders.{rule_4b_lower, rule_4c, rule_5}
use Rattle.cip_digraph.specs.outcome.Outcomes.{outcome_of}
use Rattle.cip_digraph.specs.rings.Positions.{positions_of}
use Rattle.cip_digraph.specs.units.Units.{sites_of}
use Rattle.cip_digraph.specs.digraph.View.{view_children}
use Rattle.cip_elem.specs.Bonding.{valences_of}
use Rattle.cip_elem.specs.Masses.{natural_half_of}
use Rattle.cip_rank.specs.Comparison.{comparison, sets}
use Rattle.cip_laws.proofs.ranking.digraphs.worked_molecules_are_labelled.Goals as goal

pub returns : goal.returns
unfolding valences_of graph_of positions_of sites_of natural_half_of real_children view_children comparison sets rule_1a
    rule_1b rule_2 rule_3 rule_4a readings rule_4b_higher rule_4b_lower rule_4c rule_5 order descriptors_within outcome_of
returns c = record {
  glyceraldehyde = refl;
  pyridine = refl;
  sulfoxide = refl;
  allene = refl;
  oxirane_as_printed = refl;
  oxirane_as_corrected = refl;
  chloromethane = refl;
  heptadienol = refl;
  tetrachloroheptanol = refl;
  acid = refl;
  stereogenic_first = refl;
  r_before_s = refl;
  two_pairs = refl;
}
