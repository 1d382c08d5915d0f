use Rattle.cip_rank.proofs.lemmas.Permuted.{permuted_tie}
use Rattle.cip_laws.proofs.ranking.trees.arrangement_is_free.Goals as goal

pub returns : goal.returns
returns c compare nodes others o p = permuted_tie o nodes others p
