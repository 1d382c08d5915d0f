use Rattle.cip_laws.proofs.lemmas.done.Alike.{workers_alike}
use Rattle.cip_laws.proofs.program.runs.workers_change_nothing.Goals as goal

pub returns : goal.returns
returns c = workers_alike
