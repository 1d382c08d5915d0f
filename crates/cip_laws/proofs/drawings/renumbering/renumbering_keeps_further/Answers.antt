use Rattle.cip_laws.proofs.lemmas.further.RenumberedFurther as law
use Rattle.cip_laws.proofs.drawings.renumbering.renumbering_keeps_further.Goals as goal

pub returns : goal.returns
returns c = law.renumbering_keeps_further
