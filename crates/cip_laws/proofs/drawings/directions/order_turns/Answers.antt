use Rattle.cip_num.proofs.lemmas.Rotation.{order_turns}
use Rattle.cip_laws.proofs.drawings.directions.order_turns.Goals as goal

pub returns : goal.returns
returns c = order_turns
