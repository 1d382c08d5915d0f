use Rattle.std.proofs.Common.{◌≡◌, ◌∙◌, None, Some, false, sym}
use Rattle.std.specs.declared.result.Result.{Result}
use Rattle.std.proofs.lemmas.Result.{IfOk-weaker}
use Rattle.cip_num.specs.Around.{has_coincident}
use Rattle.cip_mol.specs.Drawing.{Drawing}
use Rattle.cip_mol.specs.declared.graph.molecule.Mark.TheVariants.{Up}
use Rattle.cip_edit.specs.FoundCentres.{found_at}
use Rattle.cip_edit.specs.Marking.{directions, marked, IsBareAt}
use Rattle.cip_edit.specs.SetLetters.{by_outcome, mark_centre}
use Rattle.cip_edit.specs.declared.request.CentreRefusal.{CentreRefusal}
use Rattle.cip_edit.specs.declared.request.MarkedCentre.{MarkedCentre}
use Rattle.cip_edit.proofs.lemmas.AskedSteps.{by_ligand, chosen_told, clashing, coincident_told, outcome_told, site_told, stands_told}
use Rattle.cip_edit.proofs.centres.mark_choice.mark_bare.Goals as goal

pub orient-requires : goal.orient-requires
orient-requires g c =
    let is = c.requires.1 in
    site_told c.requires.0 c.args.request.atom c.args.bare.now c.args.site.now is.is_bare is.there is.centre

pub returns-then-shows_coincident-clause-answer : goal.returns-then-shows_coincident-clause-answer
returns-then-shows_coincident-clause-answer g c = λ drawing is.
    let requested = c.args.request in
    sym
    (clashing requested.rules c.args.labeller.now drawing requested.atom requested.letter is.flat
    (sym
    (coincident_told drawing requested.atom c.args.bare.now c.args.site.now is.is_bare is.there c.orient.result
    c.orient.ensures is.flat)
    ∙ sym c.shows_coincident.ensures ∙ c.if-shows_coincident.true))

pub eligible_ligand-requires : goal.eligible_ligand-requires
eligible_ligand-requires g c =
    let is = c.requires.1 in
    site_told c.requires.0 c.args.request.atom c.args.bare.now c.args.site.now is.is_bare is.there is.centre

pub mark_ligand-requires : goal.mark_ligand-requires
mark_ligand-requires g c =
    let is = c.requires.1 in
    stands_told c.requires.0 c.args.request.atom c.args.bare.now c.args.site.now is.is_bare is.there is.centre
    c.in-Ok-Some.neighbour

pub returns-in-Ok-Some-clause-answer : goal.returns-in-Ok-Some-clause-answer
returns-in-Ok-Some-clause-answer g c =
    let requested = c.args.request in
    IfOk-weaker c.mark_ligand.result
    (λ (answer : Result MarkedCentre CentreRefusal).
    answer
    ≡ by_outcome requested.letter c.in-Ok-Some.neighbour
    (found_at requested.rules c.args.labeller.now
    (marked c.args.bare.now requested.atom c.in-Ok-Some.neighbour Up)
    requested.atom))
    (λ answer. (drawing : Drawing) → IsBareAt drawing requested.atom c.args.bare.now c.args.site.now
    → answer ≡ mark_centre requested.rules c.args.labeller.now drawing requested.atom requested.letter)
    (λ answer stated drawing is.
    let clear : has_coincident (directions drawing requested.atom) ≡ false =
    sym
    (coincident_told drawing requested.atom c.args.bare.now c.args.site.now is.is_bare is.there c.orient.result
    c.orient.ensures is.flat)
    ∙ sym c.shows_coincident.ensures ∙ c.if-shows_coincident.false in
    stated
    ∙ outcome_told drawing requested.atom c.args.bare.now c.args.site.now is.is_bare is.there requested.rules
    c.args.labeller.now requested.letter c.in-Ok-Some.neighbour
    ∙ sym
    (by_ligand requested.rules c.args.labeller.now drawing requested.atom requested.letter is.flat clear
    (Some c.in-Ok-Some.neighbour)
    (sym c.in-Ok-Some.field-0-is
    ∙ chosen_told drawing requested.atom c.args.bare.now c.args.site.now is.is_bare is.there c.in-Ok-Some.field-0
    c.in-Ok-Some.ensures)))
    c.mark_ligand.ensures.answer

pub returns-in-Ok-None-clause-answer : goal.returns-in-Ok-None-clause-answer
returns-in-Ok-None-clause-answer g c = λ drawing is.
    let requested = c.args.request in
    let clear : has_coincident (directions drawing requested.atom) ≡ false =
    sym
    (coincident_told drawing requested.atom c.args.bare.now c.args.site.now is.is_bare is.there c.orient.result
    c.orient.ensures is.flat)
    ∙ sym c.shows_coincident.ensures ∙ c.if-shows_coincident.false in
    sym
    (by_ligand requested.rules c.args.labeller.now drawing requested.atom requested.letter is.flat clear None
    (sym c.in-Ok-None.field-0-is
    ∙ chosen_told drawing requested.atom c.args.bare.now c.args.site.now is.is_bare is.there c.in-Ok-None.field-0
    c.in-Ok-None.ensures))
