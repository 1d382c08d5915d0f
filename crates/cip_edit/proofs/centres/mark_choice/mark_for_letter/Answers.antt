use Rattle.std.proofs.Common.{◌≡◌, IfOk}
use Rattle.std.specs.declared.result.Result.{Result}
use Rattle.std.proofs.lemmas.Result.{IfOk-weaker}
use Rattle.cip_edit.specs.SetLetters.{IsGiven, mark_for_letter}
use Rattle.cip_edit.specs.declared.request.CentreRefusal.{CentreRefusal}
use Rattle.cip_edit.specs.declared.request.MarkedCentre.{MarkedCentre}
use Rattle.cip_edit.proofs.lemmas.GivenLetters.{answers_given}
use Rattle.cip_edit.proofs.centres.mark_choice.mark_for_letter.Goals as goal

pub returns-clause-given : goal.returns-clause-given
returns-clause-given g c =
    let requested = c.args.request in
    IfOk-weaker c.answer.result
    (λ (answer : Result MarkedCentre CentreRefusal).
    answer ≡ mark_for_letter requested.rules c.args.labeller.now c.args.drawn.now requested.atom requested.letter)
    (λ answer. IfOk answer (IsGiven requested.rules c.args.labeller.now c.args.drawn.now requested.atom requested.letter))
    (λ answer is.
    answers_given requested.rules c.args.labeller.now c.args.drawn.now requested.atom requested.letter
    (rw c.molecule.ensures at c.bonds-bonds.ensures.sound) answer is)
    c.answer.ensures.answer
