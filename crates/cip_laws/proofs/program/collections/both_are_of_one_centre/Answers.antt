use Rattle.cip_laws.proofs.lemmas.turned_groups.TurnedCentres.{both_are_of_one_centre}
use Rattle.cip_laws.proofs.program.collections.both_are_of_one_centre.Goals as goal

pub returns : goal.returns
returns c = both_are_of_one_centre
