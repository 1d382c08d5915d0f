use Rattle.cip_rank.proofs.lemmas.Refining as refining
use Rattle.cip_laws.proofs.ranking.trees.depths_refine.Goals as goal

pub returns : goal.returns
returns c = refining.depths_refine
