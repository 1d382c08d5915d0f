use Rattle.cip_laws.proofs.lemmas.drawings.ReflectedDrawings as law
use Rattle.cip_laws.proofs.drawings.reflection.reflection_keeps_drawings.Goals as goal

pub returns : goal.returns
returns c = law.reflection_keeps_drawings
