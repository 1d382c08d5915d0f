use Rattle.cip_digraph.proofs.lemmas.ties.Settled.{settled_tie}
use Rattle.cip_laws.proofs.ranking.digraphs.early_ties_stay.Goals as goal

pub returns : goal.returns
returns c rules graph positions all end sphere sound lt e = settled_tie rules graph positions all end sound lt sphere e
