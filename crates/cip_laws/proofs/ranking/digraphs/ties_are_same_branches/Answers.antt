use Rattle.cip_digraph.proofs.lemmas.ties.SameFromTie.{same_from_tie}
use Rattle.cip_digraph.proofs.lemmas.ties.TieFromSame.{tie_from_same}
use Rattle.cip_laws.proofs.ranking.digraphs.ties_are_same_branches.Goals as goal

pub returns : goal.returns
returns c seen a b ends_a ends_b = (same_from_tie seen a b, tie_from_same seen a b ends_a ends_b)
