use Rattle.cip_laws.proofs.lemmas.done.Dividing.{parts_add_up}
use Rattle.cip_laws.proofs.program.runs.parts_add_up.Goals as goal

pub returns : goal.returns
returns c = parts_add_up
