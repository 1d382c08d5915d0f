use Rattle.cip_laws.proofs.lemmas.senses.ReflectedCentres as law
use Rattle.cip_laws.proofs.drawings.geometry.reflection_turns_centres.Goals as goal

pub returns : goal.returns
returns c = law.reflection_turns_centres
