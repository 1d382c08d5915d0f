use Rattle.cip_digraph.proofs.lemmas.orders.Whole.{order_total}
use Rattle.cip_laws.proofs.ranking.digraphs.orders_are_total.Goals as goal

pub returns : goal.returns
returns c = order_total
