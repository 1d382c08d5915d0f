use Rattle.cip_digraph.proofs.lemmas.orders.EarlyRoots.{settled_order}
use Rattle.cip_laws.proofs.ranking.digraphs.early_orders_stay.Goals as goal

pub returns : goal.returns
returns c rules graph positions all end sphere sound some low e =
    settled_order rules graph positions all end sphere sound some low e
