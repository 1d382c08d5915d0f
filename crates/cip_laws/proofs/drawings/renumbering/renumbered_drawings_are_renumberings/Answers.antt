use Rattle.cip_laws.proofs.lemmas.drawings.RenumberedDrawings as law
use Rattle.cip_laws.proofs.drawings.renumbering.renumbered_drawings_are_renumberings.Goals as goal

pub returns : goal.returns
returns c = law.renumbered_drawings_are_renumberings
