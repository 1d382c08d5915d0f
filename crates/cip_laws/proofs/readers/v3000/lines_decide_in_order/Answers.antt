use Rattle.cip_laws.proofs.lemmas.v3000_lines.InOrder.{molecule_in_order}
use Rattle.cip_laws.proofs.readers.v3000.lines_decide_in_order.Goals as goal

pub returns : goal.returns
returns c = molecule_in_order
