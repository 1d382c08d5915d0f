use Rattle.cip_laws.proofs.lemmas.outcomes.ReflectedOutcomes as law
use Rattle.cip_laws.proofs.drawings.reflection.reflection_mirrors_outcomes.Goals as goal

pub returns : goal.returns
returns c = law.reflection_mirrors_outcomes
