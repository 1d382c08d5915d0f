use Rattle.cip_laws.proofs.lemmas.units.AloneSites as law
use Rattle.cip_laws.proofs.drawings.renumbering.units_share_no_end.Goals as goal

pub returns : goal.returns
returns c = law.units_share_no_end
