use Rattle.std.proofs.Common.{◌≡◌, ◌∙◌, sym}
use Rattle.std.specs.declared.result.Result.{Result}
use Rattle.std.proofs.lemmas.Result.{IfOk-weaker}
use Rattle.cip_mol.specs.Drawing.{Drawing}
use Rattle.cip_edit.specs.Marking.{IsBareAt}
use Rattle.cip_edit.specs.SetLetters.{mark_centre}
use Rattle.cip_edit.specs.declared.request.CentreRefusal.{CentreRefusal}
use Rattle.cip_edit.specs.declared.request.MarkedCentre.{MarkedCentre}
use Rattle.cip_edit.proofs.centres.mark_choice.mark_centre.Goals as goal

pub mark_bare-requires : goal.mark_bare-requires
mark_bare-requires g c = (
  c.args.molecule.now,
  record {
    flat = sym c.is_spatial.ensures ∙ c.if-is_spatial.false;
    centre = c.requires.centre;
    is_bare = c.in-Ok.ensures;
    there = c.requires.site;
  },
)

pub returns-in-Ok-clause-answer : goal.returns-in-Ok-clause-answer
returns-in-Ok-clause-answer g c =
    let requested = c.args.request in
    IfOk-weaker c.mark_bare.result
    (λ (answer : Result MarkedCentre CentreRefusal). (drawing : Drawing)
    → IsBareAt drawing requested.atom c.in-Ok.bare c.args.site.now
    → answer ≡ mark_centre requested.rules c.args.labeller.now drawing requested.atom requested.letter)
    (λ answer. answer ≡ mark_centre requested.rules c.args.labeller.now c.args.molecule.now requested.atom requested.letter)
    (λ answer stated. stated c.args.molecule.now (record {
      flat = sym c.is_spatial.ensures ∙ c.if-is_spatial.false;
      centre = c.requires.centre;
      is_bare = c.in-Ok.ensures;
      there = c.requires.site;
    }))
    c.mark_bare.ensures.answer
