use Rattle.cip_laws.proofs.lemmas.done.Repeating.{items_come_out}
use Rattle.cip_laws.proofs.program.runs.items_come_out.Goals as goal

pub returns : goal.returns
returns c = items_come_out
