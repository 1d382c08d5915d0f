-- Order, rule and sphere of a centre don't depend on its marks.
use Rattle.std.proofs.Common.{◌∙◌, ap}
use Rattle.cip_mol.specs.declared.site.Geometry.TheVariants.{Known}
use Rattle.cip_digraph.specs.graph.DrawnGraph.{graph_of}
use Rattle.cip_digraph.specs.outcome.Outcomes.{outcome_of}
use Rattle.cip_digraph.specs.units.Units.{centre_site}
use Rattle.cip_edit.specs.FoundCentres.{outcome_as}
use Rattle.cip_edit.specs.MarkLaw.{with_bonds}
use Rattle.cip_edit.proofs.lemmas.RemarkedCentres.{keeps_ranks}
use Rattle.cip_label.specs.Settings.{setting_in}
use Rattle.cip_undefined.specs.Laws.{lettered}
use Rattle.cip_undefined.proofs.lemmas.KeptOrders.{senses_keep}
use Rattle.cip_laws.specs.Marks.{MarksKeepOrders}

pub marks_keep : MarksKeepOrders
unfolding outcome_of
marks_keep rules nodes drawing others atom sense centre same shown =
    ap lettered (ap (outcome_as rules nodes (with_bonds drawing others) atom) shown
    ∙ (keeps_ranks drawing others atom centre same).outcomes rules nodes (Known sense))
    ∙ senses_keep (setting_in rules drawing) nodes (centre_site (graph_of drawing) atom) sense
