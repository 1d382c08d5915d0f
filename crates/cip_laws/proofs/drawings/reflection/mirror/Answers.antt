use Rattle.cip_laws.proofs.lemmas.drawings.ReflectedDrawings.{reflection_keeps_drawings}
use Rattle.cip_laws.proofs.drawings.reflection.mirror.Goals as goal

pub returns-clause-units : goal.returns-clause-units
returns-clause-units c = reflection_keeps_drawings _
