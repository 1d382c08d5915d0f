use Rattle.cip_digraph.proofs.lemmas.ways.Alternating.{ring_found, ring_finds}
use Rattle.cip_laws.proofs.ranking.digraphs.rings_are_found.Goals as goal

pub returns : goal.returns
returns c graph vertex other sound = (ring_found graph sound vertex other, ring_finds graph sound vertex other)
