-- With other marks that have their narrow end at a centre it is ranked alike.
use Rattle.std.proofs.Common.{◌≡◌, ℕ, List, ◌∙◌, true}
use Rattle.cip_mol.specs.Drawing.{Drawing}
use Rattle.cip_mol.specs.Geometry.{geometry_of}
use Rattle.cip_mol.specs.declared.graph.molecule.Bond.{Bond}
use Rattle.cip_mol.specs.declared.site.Unit as units
use Rattle.cip_digraph.specs.graph.DrawnGraph.{graph_of}
use Rattle.cip_digraph.specs.graph.Graph.{Graph}
use Rattle.cip_digraph.specs.outcome.Outcomes.{cost, outcome_of}
use Rattle.cip_digraph.specs.rings.Positions.{positions_of}
use Rattle.cip_digraph.specs.units.Centres.{is_centre, centre_ligands}
use Rattle.cip_digraph.specs.units.Ends.{end_at}
use Rattle.cip_digraph.specs.units.Units.{centre_site, sites_of, units_of}
use Rattle.cip_digraph.specs.units.DrawnUnits.{units_in}
use Rattle.cip_edit.specs.Remarked.{AreRemarked}
use Rattle.cip_edit.specs.MarkLaw.{KeepsRanks, MarksKeepRanks, SensesTurnLetters, with_bonds}
use Rattle.cip_edit.specs.UnitsBeside.{AreSameBeside}
use Rattle.cip_edit.proofs.lemmas.CentreOutcomes.{cost_stays, outcome_same}
use Rattle.cip_edit.proofs.lemmas.JoinedAlike.{graph_same}
use Rattle.cip_edit.proofs.lemmas.OtherUnits.{sites_beside, units_beside}
use Rattle.cip_edit.proofs.lemmas.TurnedOutcomes.{outcome_turned}

module _ (drawing : Drawing) (others : List Bond) (atom : ℕ) (centre : is_centre (graph_of drawing) atom ≡ true)
    (same : AreRemarked atom drawing.bonds others) where
  abbrev other : Drawing
  other = with_bonds drawing others

  abbrev graph : Graph
  graph = graph_of drawing

  same_graph : graph_of other ≡ graph_of drawing
  same_graph = graph_same atom drawing.atoms drawing.bonds others same

  -- what the other drawing shows, by the graph of the one
  abbrev theirs : List units.Unit
  theirs = units_of (geometry_of other) graph (positions_of graph)

  beside : AreSameBeside atom (units_in drawing) theirs
  beside =
      units_beside atom drawing.atoms drawing.bonds others same (sites_of graph (positions_of graph))
      (sites_beside graph (positions_of graph) atom centre)

  ranks_kept : KeepsRanks drawing others atom
  ranks_kept = record {
    graph = same_graph;
    costs = λ rules.
        let g = same_graph in
        (λ i. cost rules (g i) (positions_of (g i)) (units_of (geometry_of other) (g i) (positions_of (g i)))
        (end_at atom (centre_ligands (g i) atom)))
        ∙ cost_stays rules graph (positions_of graph) atom (units_in drawing) theirs beside
        (end_at atom (centre_ligands graph atom));
    outcomes = λ rules bound geometry.
        let g = same_graph in
        (λ i. outcome_of rules (g i) (positions_of (g i)) (units_of (geometry_of other) (g i) (positions_of (g i)))
        bound (record { site = centre_site (g i) atom; geometry = geometry }))
        ∙ outcome_same rules graph (positions_of graph) atom (units_in drawing) theirs beside bound
        (centre_ligands graph atom) geometry;
  }

pub keeps_ranks : MarksKeepRanks
keeps_ranks drawing others atom centre same = ranks_kept drawing others atom centre same

pub senses_turn : SensesTurnLetters
senses_turn rules bound drawing atom sense =
    outcome_turned rules (graph_of drawing) (positions_of (graph_of drawing)) (units_in drawing) bound atom
    (centre_ligands (graph_of drawing) atom) sense
