use Rattle.std.proofs.Common.{arith}
use Rattle.cip_item.proofs.lemmas.Joining.{record_joined}
use Rattle.cip_item.proofs.insertion.put_record.Goals as goal

pub returns-in-Ok-put_item : goal.returns-in-Ok-put_item
returns-in-Ok-put_item c = grind (arith, record_joined)
