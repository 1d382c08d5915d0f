use Rattle.cip_laws.proofs.lemmas.senses.ReflectedPairs as law
use Rattle.cip_laws.proofs.drawings.geometry.reflection_keeps_bonds.Goals as goal

pub returns : goal.returns
returns c = law.reflection_keeps_bonds
