use Rattle.cip_ring.proofs.lemmas.AnyRing as law
use Rattle.cip_laws.proofs.ranking.ring_search.rings_are_found.Goals as goal

pub returns : goal.returns
returns c = law.rings_are_found
