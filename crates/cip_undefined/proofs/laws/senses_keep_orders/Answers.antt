use Rattle.cip_undefined.proofs.lemmas.KeptOrders.{senses_keep}
use Rattle.cip_undefined.proofs.laws.senses_keep_orders.Goals as goal

pub returns : goal.returns
returns c = senses_keep
