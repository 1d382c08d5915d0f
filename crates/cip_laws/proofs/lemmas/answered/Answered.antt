-- The worked records have the worked answers.
use Rattle.std.proofs.Common.{refl}
use Rattle.std.specs.Fmt.{digits}
use Rattle.cip_text.specs.Numbers.{integer_of, decimal4_of}
use Rattle.cip_elem.specs.Symbols.{element_of}
use Rattle.cip_elem.specs.Masses.{reference_mass_of, natural_half_of}
use Rattle.cip_elem.specs.Bonding.{valences_of}
use Rattle.cip_mol.specs.Bonds.{cause_of}
use Rattle.cip_v2000.specs.AtomLine.{atom_of}
use Rattle.cip_v2000.specs.BondLine.{bond_of}
use Rattle.cip_v2000.specs.CountsLine.{counts_of}
use Rattle.cip_ctfile.specs.Fields.{number_in, signed_in}
use Rattle.cip_v2000.specs.Grammar.{molecule_of, pairs_from}
use Rattle.cip_ctfile.specs.Spaces.{spaced_words_of}
use Rattle.cip_v2000.specs.PropertyLines.{pair_of, pair_at, pairs_with}
use Rattle.cip_ctfile.specs.Reading.{read_at, in_turn, through}
use Rattle.cip_v2000.specs.Statements.{settled}
use Rattle.cip_item.specs.Putting.{heading}
use Rattle.cip_rank.specs.Comparison.{comparison, sets}
use Rattle.cip_digraph.specs.rules.Auxiliary.{descriptors_within}
use Rattle.cip_digraph.specs.rules.Decisions.{order}
use Rattle.cip_digraph.specs.digraph.Digraph.{real_children}
use Rattle.cip_digraph.specs.graph.DrawnGraph.{graph_of}
use Rattle.cip_digraph.specs.rules.Orders.{rule_1a, rule_1b, rule_2, rule_3, rule_4a, readings, rule_4b_higher, rule_4b_lower, rule_4c, rule_5}
use Rattle.cip_digraph.specs.outcome.Outcomes.{outcome_of}
use Rattle.cip_digraph.specs.rings.Positions.{positions_of}
use Rattle.cip_digraph.specs.units.Units.{sites_of}
use Rattle.cip_digraph.specs.digraph.View.{view_children}
use Rattle.cip_answer.specs.Answers.{answer_without_items}
use Rattle.cip_answer.specs.Worked.{AreAnswered}

pub worked_answers : AreAnswered
unfolding answer_without_items molecule_of pairs_from read_at in_turn through counts_of atom_of bond_of pairs_with
    spaced_words_of pair_of pair_at settled number_in signed_in integer_of decimal4_of element_of reference_mass_of natural_half_of
    valences_of cause_of graph_of positions_of sites_of real_children view_children comparison sets rule_1a rule_1b rule_2
    rule_3 rule_4a readings rule_4b_higher rule_4b_lower rule_4c rule_5 order descriptors_within outcome_of heading digits
worked_answers = record {
  front = refl;
  behind = refl;
  undecided = refl;
  refused = refl;
  within = refl;
  over = refl;
  again = refl;
  returns = refl;
}
