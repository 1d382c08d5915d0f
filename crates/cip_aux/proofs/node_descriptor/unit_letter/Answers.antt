use Rattle.std.proofs.Common.{◌∙◌, ap, sym, subst}
use Rattle.cip_mol.specs.declared.site.Unit as units
use Rattle.cip_digraph.specs.Lettered.{turned_letter}
use Rattle.cip_aux.specs.DescriptorsInside.{IsUnitLetter}
use Rattle.cip_aux.specs.UnitIndex.{unit_at}
use Rattle.cip_aux.proofs.lemmas.UnitLetters.{known_letter}
use Rattle.cip_aux.proofs.node_descriptor.unit_letter.Goals as goal

pub returns-in-Ok-clause-letter : goal.returns-in-Ok-clause-letter
returns-in-Ok-clause-letter g c =
    let inner = c.args.inner.now in
    let here = c.args.here.now in
    let unit = unit_at here.units.now here.place in
    let sense = c.in-Known.sense in
    let parities = c.in-Ok.parities in
    let same = c.unit-unit.ensures in
    subst (IsUnitLetter inner inner.from unit)
    (ap (λ (of : units.Unit). turned_letter of.site sense parities) (sym same)
    ∙ ap (λ site. turned_letter site sense parities) (sym c.ends.ensures.site) ∙ sym c.descriptor_if_ranked.ensures)
    (known_letter inner inner.from c.requires.ready unit sense here.vertex parities
    (sym (ap (λ (of : units.Unit). of.geometry) same) ∙ c.in-Known.is) c.requires.vertex
    c.in-Ok.ensures.parities)

pub turns_here-requires-clause-stands : goal.turns_here-requires-clause-stands
turns_here-requires-clause-stands g c = c.requires.stands

pub turns_here-requires-clause-ready : goal.turns_here-requires-clause-ready
turns_here-requires-clause-ready g c = c.requires.ready

pub turns_here-requires-clause-vertex : goal.turns_here-requires-clause-vertex
turns_here-requires-clause-vertex g c = c.requires.vertex

pub turns_here-requires-clause-kept : goal.turns_here-requires-clause-kept
turns_here-requires-clause-kept g c = c.requires.kept

pub turns_here-requires-clause-joined : goal.turns_here-requires-clause-joined
turns_here-requires-clause-joined g c = c.requires.joined

pub turns_here-requires-clause-low : goal.turns_here-requires-clause-low
turns_here-requires-clause-low g c = c.requires.low

pub returns-in-Ok-clause-kept_room : goal.returns-in-Ok-clause-kept_room
returns-in-Ok-clause-kept_room g c = c.turns_here.ensures.kept_room

pub returns-in_default-clause-kept_room : goal.returns-in_default-clause-kept_room
returns-in_default-clause-kept_room g c = c.turns_here.ensures.kept_room

pub returns-in_default-clause-stands : goal.returns-in_default-clause-stands
returns-in_default-clause-stands g c = c.turns_here.ensures.stands

pub returns-in-Ok-clause-stands : goal.returns-in-Ok-clause-stands
returns-in-Ok-clause-stands g c = c.turns_here.ensures.stands

pub returns-in_default-clause-kept : goal.returns-in_default-clause-kept
returns-in_default-clause-kept g c = c.turns_here.ensures.kept

pub returns-in_default-clause-room : goal.returns-in_default-clause-room
returns-in_default-clause-room g c = c.turns_here.ensures.room

pub returns-in-Ok-clause-kept : goal.returns-in-Ok-clause-kept
returns-in-Ok-clause-kept g c = c.turns_here.ensures.kept

pub returns-in-Ok-clause-room : goal.returns-in-Ok-clause-room
returns-in-Ok-clause-room g c = c.turns_here.ensures.room

pub returns-in-Unknown-clause-kept : goal.returns-in-Unknown-clause-kept
returns-in-Unknown-clause-kept g c = c.requires.kept
