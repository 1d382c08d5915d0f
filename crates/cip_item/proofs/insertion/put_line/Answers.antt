use Rattle.std.proofs.Common.{arith}
use Rattle.cip_item.proofs.lemmas.Joining.{two_joined}
use Rattle.cip_item.proofs.insertion.put_line.Goals as goal

pub returns-in-Ok : goal.returns-in-Ok
returns-in-Ok c = grind (arith, two_joined)
