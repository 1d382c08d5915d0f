use Rattle.cip_digraph.proofs.lemmas.reflected.Units.{outcome_exchanged}
use Rattle.cip_laws.proofs.ranking.digraphs.reflection_exchanges_outcomes.Goals as goal

pub returns : goal.returns
returns c = outcome_exchanged
