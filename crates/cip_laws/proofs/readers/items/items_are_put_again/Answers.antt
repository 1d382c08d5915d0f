use Rattle.cip_laws.proofs.lemmas.put_items.PutAgain.{items_are_put_again}
use Rattle.cip_laws.proofs.readers.items.items_are_put_again.Goals as goal

pub returns : goal.returns
returns c = items_are_put_again
