use Rattle.cip_laws.proofs.lemmas.senses.ExchangedEnds as law
use Rattle.cip_laws.proofs.drawings.geometry.exchanged_ends_keep_axes.Goals as goal

pub returns : goal.returns
returns c = law.exchanged_ends_keep_axes
