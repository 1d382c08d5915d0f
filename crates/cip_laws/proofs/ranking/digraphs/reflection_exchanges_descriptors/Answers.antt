use Rattle.cip_digraph.proofs.lemmas.reflected.Units.{auxiliary_exchanged}
use Rattle.cip_laws.proofs.ranking.digraphs.reflection_exchanges_descriptors.Goals as goal

pub returns : goal.returns
returns c = auxiliary_exchanged
