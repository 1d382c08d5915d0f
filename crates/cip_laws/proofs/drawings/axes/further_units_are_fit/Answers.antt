use Rattle.cip_axis.proofs.lemmas.FurtherFit as law
use Rattle.cip_laws.proofs.drawings.axes.further_units_are_fit.Goals as goal

pub returns : goal.returns
returns c = law.further_units_are_fit
