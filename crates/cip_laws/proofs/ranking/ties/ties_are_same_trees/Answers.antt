use Rattle.cip_laws.proofs.lemmas.digraph.SameTrees as law
use Rattle.cip_laws.proofs.ranking.ties.ties_are_same_trees.Goals as goal

pub returns : goal.returns
returns c = law.ties_are_same_trees
