use Rattle.cip_digraph.proofs.lemmas.tree.Ended.{ended}
use Rattle.cip_laws.proofs.ranking.digraphs.digraphs_end.Goals as goal

pub returns : goal.returns
returns c = ended
