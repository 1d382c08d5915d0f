use Rattle.std.proofs.Common.{◌∙◌, ap, length, sym}
use Rattle.cip_unit.proofs.lemmas.Leads.{drawn_is, drawn_leads}
use Rattle.cip_unit.proofs.lemmas.Kept.{units_are}
use Rattle.cip_unit.proofs.stereo_units.units.Goals as goal

pub push_all_centres-requires-clause-drawn : goal.push_all_centres-requires-clause-drawn
push_all_centres-requires-clause-drawn c = rw c.requires (drawn_is c.args.molecule.now)

pub push_all_centres-requires-clause-atoms : goal.push_all_centres-requires-clause-atoms
push_all_centres-requires-clause-atoms c = ap length c.atoms.ensures.value
    ∙ sym (rw c.requires (drawn_is c.args.molecule.now))

pub push_all_doubles-requires-clause-drawn : goal.push_all_doubles-requires-clause-drawn
push_all_doubles-requires-clause-drawn c = rw c.requires (drawn_is c.args.molecule.now)

pub push_all_doubles-requires-clause-atoms : goal.push_all_doubles-requires-clause-atoms
push_all_doubles-requires-clause-atoms c = ap length c.atoms.ensures.value
    ∙ sym (rw c.requires (drawn_is c.args.molecule.now))

pub push_all_doubles-requires-clause-leads : goal.push_all_doubles-requires-clause-leads
push_all_doubles-requires-clause-leads c = rw c.requires (drawn_leads c.args.molecule.now c.atoms.ensures.sound)

pub returns : goal.returns
returns c =
    units_are c.args.molecule.now c.args.graph.now c.args.positions.now _ _ _ _
    (ap length c.atoms.ensures.value ∙ sym (rw c.requires (drawn_is c.args.molecule.now))) c.new-units.ensures
    c.in-Ok.ensures c.in-Ok-push_all_doubles.ensures
