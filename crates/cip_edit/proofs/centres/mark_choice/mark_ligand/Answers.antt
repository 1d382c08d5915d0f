use Rattle.std.proofs.Common.{◌≡◌, ◌∙◌, subst}
use Rattle.std.specs.Prelude.{IfOk}
use Rattle.cip_mol.specs.Drawing.{Drawing}
use Rattle.cip_edit.specs.FoundCentres.{found_at}
use Rattle.cip_edit.specs.SetLetters.{by_outcome}
use Rattle.cip_edit.proofs.centres.mark_choice.mark_ligand.Goals as goal

pub returns-clause-answer : goal.returns-clause-answer
returns-clause-answer g c =
    let requested = c.args.request in
    subst
    (λ (d : Drawing). IfOk c.mark_drawn-answer.result (λ answer.
    answer ≡ by_outcome requested.letter c.args.neighbour (found_at requested.rules c.args.labeller.now d requested.atom)))
    (c.in-Ok-of.ensures ∙ c.in-Ok.ensures) c.mark_drawn-answer.ensures.answer
