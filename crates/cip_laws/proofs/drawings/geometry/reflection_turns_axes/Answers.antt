use Rattle.cip_laws.proofs.lemmas.senses.ReflectedAxes as law
use Rattle.cip_laws.proofs.drawings.geometry.reflection_turns_axes.Goals as goal

pub returns : goal.returns
returns c = law.reflection_turns_axes
