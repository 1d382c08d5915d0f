use Rattle.std.proofs.Common.{◌≡◌, ◌∙◌, ap, sym}
use Rattle.std.specs.declared.result.Result.{Result}
use Rattle.std.proofs.lemmas.Option.{get_or_from_slice_get}
use Rattle.std.proofs.lemmas.Result.{IfOk-weaker}
use Rattle.cip_mol.specs.declared.site.Unit as units
use Rattle.cip_edit.specs.SetLetters.{mark_for_letter, mark_centre}
use Rattle.cip_edit.specs.declared.request.CentreRefusal.{CentreRefusal}
use Rattle.cip_edit.specs.declared.request.MarkedCentre.{MarkedCentre}
use Rattle.cip_edit.proofs.lemmas.AskedSteps.{no_centre, some_centre}
use Rattle.cip_edit.proofs.lemmas.CentrePlaces.{centre_listed, centre_stands, centre_unit, none_listed}
use Rattle.cip_edit.proofs.centres.mark_choice.answer.Goals as goal

pub mark_centre-requires-clause-site : goal.mark_centre-requires-clause-site
mark_centre-requires-clause-site g c =
    let requested = c.args.request in
    rw c.molecule.ensures (ap (λ (unit : units.Unit). unit.site)
    (get_or_from_slice_get c.list-units.result.now c.in-Some.place (centre_unit c.args.drawn.now requested.atom)
    c.index-units-place.result
    (centre_listed c.args.drawn.now c.list-units.result.now
    (c.list-units.ensures ∙ c.units.ensures.value) requested.atom c.in-Some.place (sym c.in-Some.ensures))))

pub mark_centre-requires-clause-centre : goal.mark_centre-requires-clause-centre
mark_centre-requires-clause-centre g c =
    rw c.molecule.ensures (centre_stands c.args.drawn.now c.list-units.result.now
    (c.list-units.ensures ∙ c.units.ensures.value) c.args.request.atom c.in-Some.place (sym c.in-Some.ensures))

pub returns-in-Some-clause-answer : goal.returns-in-Some-clause-answer
returns-in-Some-clause-answer g c =
    let requested = c.args.request in
    IfOk-weaker c.mark_centre.result
    (λ (answer : Result MarkedCentre CentreRefusal).
    answer ≡ mark_centre requested.rules c.args.labeller.now c.args.drawn.now requested.atom requested.letter)
    (λ answer. answer ≡ mark_for_letter requested.rules c.args.labeller.now c.args.drawn.now requested.atom requested.letter)
    (λ answer is.
    is
    ∙ sym
    (some_centre requested.rules c.args.labeller.now c.args.drawn.now requested.atom requested.letter
    (centre_stands c.args.drawn.now c.list-units.result.now
    (c.list-units.ensures ∙ c.units.ensures.value) requested.atom c.in-Some.place (sym c.in-Some.ensures))))
    (rw c.molecule.ensures at c.mark_centre.ensures.answer)

pub returns-in-None-clause-answer : goal.returns-in-None-clause-answer
returns-in-None-clause-answer g c =
    let requested = c.args.request in
    sym
    (no_centre requested.rules c.args.labeller.now c.args.drawn.now requested.atom requested.letter
    (none_listed c.args.drawn.now c.list-units.result.now
    (c.list-units.ensures ∙ c.units.ensures.value) requested.atom (sym c.in-None.ensures)))
