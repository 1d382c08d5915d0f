use Rattle.cip_laws.proofs.lemmas.drawings.Renumbered as law
use Rattle.cip_laws.proofs.drawings.renumbering.renumberings_are_sound.Goals as goal

pub returns : goal.returns
returns c = law.renumberings_are_sound
