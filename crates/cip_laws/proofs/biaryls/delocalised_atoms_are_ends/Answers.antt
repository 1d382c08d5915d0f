use Rattle.cip_laws.proofs.lemmas.further.BiarylEnds.{delocalised_atoms_are_ends}
use Rattle.cip_laws.proofs.biaryls.delocalised_atoms_are_ends.Goals as goal

pub returns : goal.returns
returns c = delocalised_atoms_are_ends
