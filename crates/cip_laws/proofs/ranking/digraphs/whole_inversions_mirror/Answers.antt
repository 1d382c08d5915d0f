use Rattle.cip_digraph.proofs.lemmas.reflected.Inversions.{whole_inversions_mirror}
use Rattle.cip_laws.proofs.ranking.digraphs.whole_inversions_mirror.Goals as goal

pub returns : goal.returns
returns c = whole_inversions_mirror
