use Rattle.cip_laws.proofs.lemmas.further.ListedChains.{chains_are_listed}
use Rattle.cip_laws.proofs.drawings.cumulenes.chains_are_listed.Goals as goal

pub returns : goal.returns
returns c = chains_are_listed
