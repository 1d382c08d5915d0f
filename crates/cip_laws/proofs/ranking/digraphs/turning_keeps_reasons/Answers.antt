use Rattle.cip_digraph.proofs.lemmas.ties.Turned.{turned_reason}
use Rattle.cip_laws.proofs.ranking.digraphs.turning_keeps_reasons.Goals as goal

pub returns : goal.returns
returns c seen a b = turned_reason seen a b
