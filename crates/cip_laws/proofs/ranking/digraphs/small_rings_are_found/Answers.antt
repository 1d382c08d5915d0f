use Rattle.cip_digraph.proofs.lemmas.ways.Reached.{small_ring_found, small_ring_finds}
use Rattle.cip_laws.proofs.ranking.digraphs.small_rings_are_found.Goals as goal

pub returns : goal.returns
returns c graph a b differ = (small_ring_found graph a b differ, small_ring_finds graph a b)
