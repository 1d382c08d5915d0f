use Rattle.std.proofs.Common.{◌≡◌, ℕ, List, length}
use Rattle.std.proofs.lemmas.Result.{IfOk-weaker}
use Rattle.cip_mol.specs.Bonds.{IsSound}
use Rattle.cip_mol.specs.Drawing.{Drawing}
use Rattle.cip_mol.specs.Permutations.{ArePlaces}
use Rattle.cip_mol.specs.RenumberedDrawing.{renumbered}
use Rattle.cip_laws.specs.RenumberingLaw.{KeepsOutcomes}
use Rattle.cip_laws.specs.VertexImages.{vertex_image}
use Rattle.cip_laws.proofs.lemmas.drawings.Renumbered.{renumbering_keeps_outcomes}
use Rattle.cip_laws.proofs.lemmas.drawings.RenumberedDrawings.{renumbered_drawings_are_renumberings}
use Rattle.cip_laws.proofs.drawings.renumbering.renumber.Goals as goal

keeps_outcomes : (drawing : Drawing) (atoms bonds : List ℕ) → IsSound (length drawing.atoms) drawing.bonds
    → ArePlaces (length drawing.atoms) atoms → ArePlaces (length drawing.bonds) bonds → (other : Drawing)
    → other ≡ renumbered atoms bonds drawing → KeepsOutcomes drawing other (vertex_image drawing other atoms)
keeps_outcomes drawing atoms bonds sound p q other is =
    rw is
    (λ rules bound. renumbering_keeps_outcomes rules bound _ _ _ sound
    (renumbered_drawings_are_renumberings drawing atoms bonds sound p q))

pub returns-clause-outcomes : goal.returns-clause-outcomes
returns-clause-outcomes c =
    IfOk-weaker c.renumber.result _ _
    (keeps_outcomes _ _ _ c.renumber.ensures.sound c.requires.atoms c.requires.bonds) c.renumber.ensures.drawn
