use Rattle.cip_digraph.proofs.lemmas.reflected.Inversions.{inversions_turn_back}
use Rattle.cip_laws.proofs.ranking.digraphs.inversions_turn_back.Goals as goal

pub returns : goal.returns
returns c = inversions_turn_back
