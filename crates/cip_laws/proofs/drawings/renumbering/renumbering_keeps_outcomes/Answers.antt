use Rattle.cip_laws.proofs.lemmas.drawings.Renumbered as law
use Rattle.cip_laws.proofs.drawings.renumbering.renumbering_keeps_outcomes.Goals as goal

pub returns : goal.returns
returns c = law.renumbering_keeps_outcomes
