use Rattle.cip_mancude.proofs.lemmas.SharedWays as law
use Rattle.cip_laws.proofs.ranking.alternation.shared_rings_are_found.Goals as goal

pub returns : goal.returns
returns c = law.shared_rings_are_found
