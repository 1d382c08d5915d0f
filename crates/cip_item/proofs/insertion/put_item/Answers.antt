use Rattle.std.proofs.Common.{arith}
use Rattle.cip_item.proofs.lemmas.Joining.{five_joined}
use Rattle.cip_item.proofs.insertion.put_item.Goals as goal

pub returns-in-Ok-put_values : goal.returns-in-Ok-put_values
returns-in-Ok-put_values c = grind (arith, five_joined)
