use Rattle.std.proofs.Common.{◌≡◌, ◌∙◌, ap, length, sym, refl}
use Rattle.cip_mol.specs.Bonds as bonds
use Rattle.cip_mol.specs.Drawing.{Drawing}
use Rattle.cip_digraph.specs.graph.DrawnGraph.{graph_of}
use Rattle.cip_digraph.specs.graph.Graph.{Graph}
use Rattle.cip_digraph.proofs.lemmas.bonds.Sound.{drawn_sound}
use Rattle.cip_unit.proofs.lemmas.Leads.{drawn_is, drawn_leads}
use Rattle.cip_axis.specs.Listing.{IsGraphOf}
use Rattle.cip_axis.proofs.lemmas.Chained.{units_are}
use Rattle.cip_axis.proofs.lemmas.FewFurther.{few_further}
use Rattle.cip_axis.proofs.lemmas.FurtherFit.{further_units_are_fit}
use Rattle.cip_axis.proofs.further_units.further.Goals as goal

is_graph : (drawing : Drawing) (graph : Graph) → bonds.IsSound (length drawing.atoms) drawing.bonds
    → graph ≡ graph_of drawing → IsGraphOf drawing graph
is_graph drawing graph sound same =
    rw same (record { drawn = drawn_is drawing; leads = drawn_leads drawing sound; sound = drawn_sound drawing sound })

pub push_all-requires-clause-source : goal.push_all-requires-clause-source
push_all-requires-clause-source c =
    is_graph c.args.molecule.now c.args.graph.now c.atoms.ensures.sound c.requires

pub push_all-requires-clause-atoms : goal.push_all-requires-clause-atoms
push_all-requires-clause-atoms c = ap length c.atoms.ensures.value
    ∙ sym (rw c.requires (drawn_is c.args.molecule.now))

pub returns-in-Ok-push_all : goal.returns-in-Ok-push_all
returns-in-Ok-push_all c =
    let drawing = c.args.molecule.now in
    let graph = c.args.graph.now in
    let positions = c.args.positions.now in
    let value =
    units_are drawing graph positions _ _ _ _
    (ap length c.atoms.ensures.value ∙ sym (rw c.requires (drawn_is drawing)))
    c.new-units.ensures refl c.in-Ok-push_all.ensures in
    record {
      value = value;
      fit = rw value (further_units_are_fit drawing graph positions (is_graph drawing graph c.atoms.ensures.sound c.requires).sound);
      few = few_further drawing graph positions _ c.atoms.ensures.range.few_atoms c.requires value;
    }
