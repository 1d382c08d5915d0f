use Rattle.cip_laws.proofs.lemmas.further.ReflectedFurther as law
use Rattle.cip_laws.proofs.drawings.reflection.reflection_keeps_further.Goals as goal

pub returns : goal.returns
returns c = law.reflection_keeps_further
