use Rattle.cip_digraph.proofs.lemmas.descriptors.Settled.{descriptor_is_letter}
use Rattle.cip_laws.proofs.ranking.digraphs.descriptors_are_letters.Goals as goal

pub returns : goal.returns
returns c = descriptor_is_letter
