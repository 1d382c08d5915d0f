use Rattle.cip_label.proofs.lemmas.FitUnits.{units_fit}
use Rattle.cip_laws.proofs.labels.units_are_fit.Goals as goal

pub returns : goal.returns
returns c = λ graph positions all sound at. units_fit graph sound positions all at
