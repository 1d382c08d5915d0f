use Rattle.cip_rank.proofs.lemmas.TotalOrder.{comparison_total}
use Rattle.cip_laws.proofs.ranking.trees.comparisons_order.Goals as goal

pub returns : goal.returns
returns c children earlier key depth o = comparison_total children key o depth
