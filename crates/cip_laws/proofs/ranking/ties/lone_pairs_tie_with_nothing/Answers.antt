use Rattle.cip_laws.proofs.lemmas.digraph.SameTrees as law
use Rattle.cip_laws.proofs.ranking.ties.lone_pairs_tie_with_nothing.Goals as goal

pub returns : goal.returns
returns c = law.lone_pairs_tie_with_nothing
