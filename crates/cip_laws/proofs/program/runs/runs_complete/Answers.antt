use Rattle.cip_laws.proofs.lemmas.done.Completing.{complete}
use Rattle.cip_laws.proofs.program.runs.runs_complete.Goals as goal

pub returns : goal.returns
returns c = complete
