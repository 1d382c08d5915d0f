use Rattle.cip_laws.proofs.lemmas.senses.OneOrder.{one_order}
use Rattle.cip_laws.proofs.drawings.directions.order_is_one.Goals as goal

pub returns : goal.returns
returns c ds ns ms clear p q = one_order ds clear ns ms p q
