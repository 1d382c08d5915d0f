use Rattle.cip_item.proofs.lemmas.TakenOut.{items_are_taken_out}
use Rattle.cip_laws.proofs.readers.items.items_are_taken_out.Goals as goal

pub returns : goal.returns
returns c = items_are_taken_out
